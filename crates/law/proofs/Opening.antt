-- Open finds no reason to refuse exactly where size, number and directions are right.
use Rattle.std.proofs.Common.{◌≡◌, ℕ, suc, Bool, true, false, cond, ◌&&◌, List, [], ◌∷◌, length, Some, None, Option, sym, refl, ◌∙◌, arith}
use Rattle.std.proofs.lemmas.Bool.{and_parts, and_from}
use Rattle.mojette.specs.declared.direction.Direction.{Direction}
use Rattle.mojette.specs.declared.direction.Record.{Record}
use Rattle.mojette.specs.Bounds.{most_side, most_places}
use Rattle.mojette.specs.Directions.{lawful, all_lawful, in_order}
use Rattle.mojette.specs.Meaning.{Shape, side_ok, number_ok, follows, places_verdict, verdict, Lawful}
use Rattle.mojette.specs.Refusals.{Refusal}
use Rattle.mojette.proofs.Bounds.{within, is_within}
use Rattle.law.specs.Opening.{directions_of, Opens, OpensExactly}

-- a verdict of two checks: the second counts where the first passes
passes : (t : Bool) (v : Option Refusal) (r : Refusal) → cond t v (Some r) ≡ None → (t ≡ true) × (v ≡ None)
passes true v r e = (refl, e)
passes false v r e = let z : ◌≡◌ {A = ℕ} 0 1 = cc in absurd (omega arith)

passed : (t : Bool) (v : Option Refusal) (r : Refusal) → t ≡ true → v ≡ None → cond t v (Some r) ≡ None
passed true v r t≡ e = e
passed false v r t≡ e = let z : ◌≡◌ {A = ℕ} 0 1 = cc in absurd (omega arith)

-- Places ----------------------------------------------------------------------------------------------------------

-- the order of directions of which `last` comes before the first
abbrev in_order_after : Option Direction → List Direction → Bool
in_order_after None ds = in_order ds
in_order_after (Some d) ds = in_order (d ∷ ds)

next : (last : Option Direction) (d : Direction) (ds : List Direction) → in_order_after last (d ∷ ds) ≡ (follows last d && in_order (d ∷ ds))
next None d ds = refl
next (Some e) d ds = refl

places_right : (i : ℕ) (last : Option Direction) (es : List Record) → places_verdict i last es ≡ None →
    (all_lawful (directions_of es) ≡ true) × (in_order_after last (directions_of es) ≡ true)
places_right i None [] e = (refl, refl)
places_right i (Some d) [] e = (refl, refl)
places_right i last (a ∷ es) e =
    let f = passes (lawful a.direction) _ _ e in
    let g = passes (follows last a.direction) _ _ f.1 in
    let later = places_right (suc i) (Some a.direction) es g.1 in
    (and_from _ _ f.0 later.0, next last a.direction (directions_of es) ∙ and_from _ _ g.0 later.1)

right_places : (i : ℕ) (last : Option Direction) (es : List Record) → all_lawful (directions_of es) ≡ true →
    in_order_after last (directions_of es) ≡ true → places_verdict i last es ≡ None
right_places i last [] each ordered = refl
right_places i last (a ∷ es) each ordered =
    let f = and_parts _ _ each in
    let g = and_parts _ _ (sym (next last a.direction (directions_of es)) ∙ ordered) in
    passed (lawful a.direction) _ _ f.0 (passed (follows last a.direction) _ _ g.0 (right_places (suc i) (Some a.direction) es f.1 g.1))

-- All checks ------------------------------------------------------------------------------------------------------

pub opens : (s : Shape) → Lawful s → Opens s
unfolding verdict
opens s e =
    let size = passes (side_ok s.P && side_ok s.Q) _ _ e in
    let sides = and_parts (side_ok s.P) (side_ok s.Q) size.0 in
    let number = passes (number_ok (length s.records)) _ _ size.1 in
    let places = places_right 0 None s.records number.1 in
    record {
      columns = within most_side s.P sides.0;
      rows = within most_side s.Q sides.1;
      number = within most_places (length s.records) number.0;
      directions = record { each = places.0; ordered = places.1 };
    }

is_opened : (s : Shape) → Opens s → Lawful s
unfolding verdict
is_opened s o =
    passed (side_ok s.P && side_ok s.Q) _ _ (and_from _ _ (is_within most_side s.P o.columns) (is_within most_side s.Q o.rows))
    (passed (number_ok (length s.records)) _ _ (is_within most_places (length s.records) o.number)
    (right_places 0 None s.records o.directions.each o.directions.ordered))

pub opens_exactly : OpensExactly
opens_exactly s = (opens s, is_opened s)
