use Rattle.std.proofs.Common.{◌≡◌, ℕ, ◌+◌, ◌-◌, ◌*◌, ◌<◌, ◌≤◌, get_or, set, ap, ◌∙◌, inl, inr, arith, rules}
use Rattle.std.proofs.lemmas.List.Edits.{fill_by_more}
use Rattle.walk.specs.Counts.{pixels_of_bin}
use Rattle.walk.specs.Passing.{columns_at}
use Rattle.walk.proofs.Counting.{turn}
use Rattle.walk.proofs.counts.count_slanted.Goals as goal
use Rattle.walk.proofs.counts.count_slanted.Goals.{Joined-b-place, then-b-place, else-b-place}

-- by the count that is read
turn_at : (c : Joined-b-place) (begun : ℕ) → begun ≡ columns_at c.args.size.columns c.args.place.q 0 c.loop-b.b
    → (pixels_of_bin c.args.size.columns c.args.size.rows c.args.place c.loop-b.b + columns_at c.args.size.columns c.args.place.q (c.args.size.rows * c.args.place.slope) c.loop-b.b
    ≡ c.if-b-place.before + begun) × (c.if-b-place.before + begun ≤ c.args.size.rows + 1)
turn_at c begun e =
    turn c.args.size.columns c.args.size.rows c.args.place c.requires.place c.requires.line.some_rows c.requires.slanted.0 c.loop-b.b c.if-b-place.before begun e
    (elim c.if-b-place.branch [
      | then-b-place w ↦ inl (w.if-b-place.true, w.before-is)
      | else-b-place w ↦ inr (w.if-b-place.false, w.before-is ∙ c.loop-b.invariant.counts _ (omega (arith, w.if-b-place.false, c.requires.slanted.1)))
    ])

pub overflow_add-bins : goal.overflow_add-bins
overflow_add-bins c =
    let t = turn_at (goal.at.overflow_add-bins c).Joined-b-place c.pass.result (c.pass.ensures _ _ _ c.loop-b.invariant.begins).0 in
    let m : c.if-b-place.before + c.pass.result < 256 = omega (arith, t.1, c.requires.line.few_rows) in
    search rules

pub overflow_sub-bins : goal.overflow_sub-bins
overflow_sub-bins c =
    let t = turn_at (goal.at.overflow_sub-bins c).Joined-b-place c.pass.result (c.pass.ensures _ _ _ c.loop-b.invariant.begins).0 in
    omega (arith, t.0, (c.pass-in-loop-b.ensures _ _ _ c.loop-b.invariant.ends).0)

pub loop-b-preserved : goal.loop-b-preserved
loop-b-preserved c =
    let begun = c.pass.ensures _ _ _ c.loop-b.invariant.begins in
    let ended = c.pass-in-loop-b.ensures _ _ _ c.loop-b.invariant.ends in
    let t = turn_at (goal.at.loop-b-preserved c).Joined-b-place c.pass.result begun.0 in
    let N = pixels_of_bin c.args.size.columns c.args.size.rows c.args.place in
    let here : c.if-b-place.before + c.pass.result - c.pass-in-loop-b.result ≡ N c.loop-b.b = omega (arith, t.0, ended.0) in record {
      begins = begun.1;
      ends = ended.1;
      counts = λ k h. ap (λ v. get_or (set c.loop-b.bins c.loop-b.b v) k 0) here ∙ fill_by_more N c.loop-b.bins c.loop-b.b 0 (omega arith) c.loop-b.invariant.counts k h;
    }
