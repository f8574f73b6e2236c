use Rattle.std.proofs.Common.{◌≡◌, ℕ, Bool, true, false, List, cond, OnErr, ◌++◌, length, take, drop, replicate, ap, ◌∙◌, subst, ltb}
use Rattle.std.proofs.Math.Seq.{take-append_seam}
use Rattle.mojette.specs.Faults.{Outcome, served, refuses}
use Rattle.mojette.specs.Refusals.{refusal}
use Rattle.writing.specs.Splices.{filling}
use Rattle.answers.specs.Answers.{program_answer}
use Rattle.rebuild.specs.Fronts.{AppendsFront}
use Rattle.rebuild.proofs.streams.write_answer.Goals as goal

-- the length that is answered, 0 where a text is too long
abbrev told : Outcome ℕ → ℕ
told (served n) = n
told (refuses r) = 0

-- what is written of a text that was served
front : (n : ℕ) (t out out' : List ℕ) → ◌≡◌ {A = Outcome ℕ × List ℕ} (served n, out') (filling t out) → take n out' ≡ t
front n t out out' = go (ltb (length out) (length t))
  where
    go : (short : Bool) → ◌≡◌ {A = Outcome ℕ × List ℕ} (served n, out') (cond short (refuses (refusal 21 (length t) 0 0), out) (served (length t), t ++ drop (length t) out)) → take n out' ≡ t
    go true e = let z : served n ≡ refuses (refusal 21 (length t) 0 0) = ap (λ x. x.0) e in absurd cc
    go false e = ap (λ x. take (told x.0) x.1) e ∙ take-append_seam t (drop (length t) out)

pub returns-clause-failed : goal.returns-clause-failed
returns-clause-failed g c =
    subst (λ bs. OnErr c.write_whole.result (AppendsFront (g.W.Write.contents c.args.writer.now) (g.W.Write.contents c.write_whole.new.writer) bs))
    (front c.in-Ok.len (program_answer c.args.text.now) (replicate 65536 0) c.answer.new.out c.in-Ok.ensures.text) c.write_whole.ensures.failed
