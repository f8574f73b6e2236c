-- What is told of a shape, by what is told of its plan.
use Rattle.std.proofs.Common.{◌≡◌, ℕ, List, [], ◌++◌, decimal, codes as text, Ok, Err, sym, ap, ◌∙◌, subst, append_assoc}
use Rattle.mojette.specs.declared.fault.Fault.{Fault}
use Rattle.mojette.specs.Faults.{refusal_of}
use Rattle.mojette.specs.Meaning.{Shape}
use Rattle.mojette.specs.Refusals.{Refusal}
use Rattle.format.specs.Listing.{refusal_text}
use Rattle.plan.specs.declared.plan.Plan.{Plan}
use Rattle.plan.specs.Layouts.{Plans}
use Rattle.plan.specs.Shapes.{shape}
use Rattle.reports.specs.Checks.{Checks, lawful, refused}
use Rattle.reports.specs.Remarks.{sentence_line}
use Rattle.reports.specs.Spares.{criterion_text}

pub checks_lawful : (s : Shape) (plan : Plan) (listing remark : List ℕ) → Plans s (Ok plan) → listing ≡ criterion_text (shape plan) → remark ≡ [] → Checks s listing remark
checks_lawful s plan listing remark h l r =
    let known : Checks s (criterion_text s) [] = lawful h.0 in
    let same : criterion_text s ≡ listing = sym (l ∙ ap criterion_text h.1) in
    subst (λ x. Checks s listing x) (sym r) (subst (λ x. Checks s x []) same known)

pub checks_refused : (s : Shape) (e : Fault) (listing remark : List ℕ) → Plans s (Err e) → listing ≡ refusal_text (refusal_of e) → remark ≡ sentence_line s.records e → Checks s listing remark
checks_refused s e listing remark h l r =
    let known : Checks s (refusal_text (refusal_of e)) (sentence_line s.records e) = refused e h in
    subst (λ x. Checks s listing x) (sym r) (subst (λ x. Checks s x (sentence_line s.records e)) (sym l) known)

-- a refusal as it is printed
abbrev pub refusal_words : Refusal → List ℕ
refusal_words r = text "refused " ++ decimal r.number ++ text " " ++ decimal r.first ++ text " " ++ decimal r.second ++ text " " ++ decimal r.third

pub line_of : {r s : Refusal} → r ≡ s → text "(" ++ (refusal_words r ++ text ")\n") ≡ refusal_text s
line_of {r} {s} e = ap (λ (x : Refusal). text "(" ++ (refusal_words x ++ text ")\n")) e ∙ simp append_assoc
