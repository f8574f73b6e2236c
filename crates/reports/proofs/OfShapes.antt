-- The plan of a file that was read.
use Rattle.std.proofs.Common.{◌≡◌, Ok, Err, Result, sym, ap, ◌∙◌}
use Rattle.mojette.specs.declared.fault.Fault.{Fault}
use Rattle.mojette.specs.Faults.{served, refuses}
use Rattle.mojette.specs.Meaning.{Meaning, shape_of}
use Rattle.mojette.specs.Refusals.{Refusal, refusal}
use Rattle.plan.specs.declared.plan.Plan.{Plan}
use Rattle.plan.specs.Layouts.{Plans}
use Rattle.source.specs.Questions.{checked}
use Rattle.format.specs.Format.{Read, file, refused}
use Rattle.bracket.specs.Files.{asked_file}
use Rattle.reports.specs.Shapes.{asked_shape, shaped}

module _ {S : Type 0} where
  of_meaning : (m : Meaning S) (p : Result Plan Fault) → Plans (shape_of m) p → shaped p ≡ asked_shape (file m)
  of_meaning m (Ok plan) h = ap served h.1 ∙ sym (ap (λ v. checked v (served (shape_of m))) h.0)
  of_meaning m (Err e) h = sym (ap (λ v. checked v (served (shape_of m))) h)

  pub of_file : (r : Read S) (m : Meaning S) → served m ≡ asked_file r → (p : Result Plan Fault) → Plans (shape_of m) p → shaped p ≡ asked_shape r
  of_file (file n) m e p h = let same : m ≡ n = cc in of_meaning m p h ∙ ap (λ k. asked_shape (file k)) same
  of_file (refused line byte why) m e p h = cc

  pub of_none : (r : Read S) (q : Refusal) → refuses q ≡ asked_file r → refuses q ≡ asked_shape r
  of_none (file n) q e = cc
  of_none (refused line byte why) q e = let same : q ≡ refusal 20 line byte why = cc in ap refuses same
