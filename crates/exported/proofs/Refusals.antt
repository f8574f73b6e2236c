-- What a refused rebuild leaves.
use Rattle.std.proofs.Common.{◌≡◌, ℕ, ◌≤◌, Ok, Err, Result, IfOk, refl, arith}
use Rattle.samples.specs.declared.words.SumWord.{SumWord}
use Rattle.mojette.specs.declared.fault.Fault.{Fault}
use Rattle.mojette.specs.Faults.{Outcome, served, refuses, outcome}
use Rattle.mojette.specs.Meaning.{Meaning}
use Rattle.law.specs.Steps.{Tables}
use Rattle.runs.specs.Rebuilding.{Answer, unlawful, too_short, ghosted, contradicted, rebuilt}
use Rattle.exported.specs.Rebuilding.{pixels, RebuildsRack}
use Rattle.exported.specs.Told.{told}

-- Nothing, unless a ghost is shown or sums are left over.
pub unwritten : (made : Outcome (Meaning SumWord)) (before : Tables SumWord) (answer : Answer) (after : Tables SumWord) → RebuildsRack made before answer after →
    ((told (pixels answer)).1.number ≡ 0 → ⊥) → ((told (pixels answer)).1.number ≡ 9 → ⊥) → ((told (pixels answer)).1.number ≡ 15 → ⊥) → after ≡ before
unwritten (refuses r) before answer after run some other last = run.1
unwritten (served m) before answer after (unlawful e) some other last = refl
unwritten (served m) before answer after (too_short lawful e) some other last = refl
unwritten (served m) before answer after (ghosted ready fails lived ghost) some other last = absurd (other refl)
unwritten (served m) before answer after (contradicted ready holds lived e none) some other last = absurd (last refl)
unwritten (served m) before answer after (rebuilt ready holds lived agrees only) some other last = absurd (some refl)

-- What is told of a served call is what it answered, and of a refused one 0.
pub told_few : (r : Result ℕ Fault) (n : ℕ) → IfOk r (λ v. v ≤ n) → (told (outcome r)).0 ≤ n
told_few (Ok v) n few = few
told_few (Err e) n few = omega arith
