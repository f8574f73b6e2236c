-- What a strip knows of its place.
use Rattle.std.proofs.Common.{◌≡◌, ℕ, ◌*◌, ◌≤◌, true, None, Ok, ap, ◌∙◌}
use Rattle.std.proofs.lemmas.Nat.{mul-le}
use Rattle.samples.specs.declared.words.SumWord.{SumWord}
use Rattle.mojette.specs.declared.direction.Record.{Record}
use Rattle.mojette.specs.Bins.{bins}
use Rattle.mojette.specs.Bounds.{most_side, most_pixels, most_bins}
use Rattle.mojette.specs.Directions.{lawful}
use Rattle.mojette.specs.Faults.{served}
use Rattle.mojette.specs.Meaning.{Meaning, shape_of, side_ok, verdict}
use Rattle.mojette.proofs.Bounds.{bins_most}
use Rattle.plan.specs.declared.plan.Plan.{Plan}
use Rattle.plan.specs.Layouts.{Plans}
use Rattle.plan.proofs.Cells.{side_most}
use Rattle.source.specs.Questions.{bins_at, asked_place}
use Rattle.source.proofs.Asking.{Found, place_found}
use Rattle.source.proofs.Verdicts.{columns_ok, rows_ok, direction_ok}

-- What the code knows of place i once its source is lawful: P by Q pixels, and its record e.
pub record Known (m : Meaning SumWord) (i P Q : ℕ) (e : Record) : Type 0 where
  pub lawful_source : verdict (shape_of m) ≡ None
  pub columns : P ≡ m.P
  pub rows : Q ≡ m.Q
  pub answer : served e ≡ asked_place m i

pub known :
    (m : Meaning SumWord) (i P Q : ℕ) (e : Record) (plan : Plan) → Plans (shape_of m) (Ok plan) → P ≡ plan.size.columns → Q ≡ plan.size.rows
    → served e ≡ asked_place m i → Known m i P Q e
known m i P Q e plan (v, same) p q a = record { lawful_source = v; columns = p ∙ ap (λ s. s.P) same; rows = q ∙ ap (λ s. s.Q) same; answer = a }

module _ {m : Meaning SumWord} {i P Q : ℕ} {e : Record} (h : Known m i P Q e) where
  abbrev is : Found m i e
  is = place_found m i e h.answer

  pub columns_known : side_ok P ≡ true
  columns_known = ap side_ok h.columns ∙ columns_ok (shape_of m) h.lawful_source

  pub rows_known : side_ok Q ≡ true
  rows_known = ap side_ok h.rows ∙ rows_ok (shape_of m) h.lawful_source

  pub direction_known : lawful e.direction ≡ true
  direction_known = ap (λ x. lawful x.direction) is.same ∙ direction_ok m i h.lawful_source is.inside

  pub pixels_few : P * Q ≤ most_pixels
  pixels_few = mul-le P Q most_side most_side (side_most P columns_known).1 (side_most Q rows_known).1

  pub bins_few : bins P Q e.direction ≤ most_bins
  bins_few = bins_most e.direction direction_known P Q (side_most P columns_known).1 (side_most Q rows_known).1

  module _ (n : ℕ) (size : n ≡ bins P Q e.direction) where
    pub bins_known : n ≡ bins_at m i
    bins_known = size ∙ (λ j. bins (h.columns j) (h.rows j) (is.same j).direction)
