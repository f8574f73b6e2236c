-- What refusals 1 to 4 say of a shape, in words of its numbers and its places.
use Rattle.std.specs.Prelude.{◌≡◌, ℕ, suc, ◌-◌, ◌<◌, true, false, ◌↔◌, List, length, Some, Option, slice_index_or}
use Rattle.mojette.specs.declared.direction.Direction.{Direction}
use Rattle.mojette.specs.declared.direction.Record.{Record}
use Rattle.mojette.specs.Bounds.{most_side, most_places, OneTo}
use Rattle.mojette.specs.Directions.{lawful, before}
use Rattle.mojette.specs.Meaning.{no_record, Shape}
use Rattle.mojette.specs.Refusals.{Refusal, unlawful_size, unlawful_place_count, unlawful_direction, disordered_direction}

-- the direction of place i
abbrev pub direction_at : List Record → ℕ → Direction
direction_at es i = (slice_index_or es i no_record).direction

-- Each place before place i has a lawful direction, and stands before the next of these.
pub record GoodBefore (es : List Record) (i : ℕ) : Type 0 where
  pub each : (j : ℕ) → j < i → lawful (direction_at es j) ≡ true
  pub ordered : (j : ℕ) → suc j < i → before (direction_at es j) (direction_at es (suc j)) ≡ true

-- Place i is the first that is wrong, and its direction is not lawful.
pub record FirstUnlawful (es : List Record) (i : ℕ) : Type 0 where
  pub inside : i < length es
  pub earlier : GoodBefore es i
  pub unlawful : lawful (direction_at es i) ≡ false

-- Place i is the first that is wrong: its direction is lawful, but does not come after that of the place before.
pub record FirstDisorder (es : List Record) (i : ℕ) : Type 0 where
  pub inside : i < length es
  pub earlier : GoodBefore es i
  pub is_lawful : lawful (direction_at es i) ≡ true
  pub not_first : 0 < i
  pub not_after : before (direction_at es (i - 1)) (direction_at es i) ≡ false

pub record Sized (s : Shape) : Type 0 where
  pub columns : OneTo most_side s.P
  pub rows : OneTo most_side s.Q

abbrev pub Counted : Shape → Type 0
Counted s = OneTo most_places (length s.records)

-- What is told of a shape: when each refusal comes, and which place it names.
pub record FirstWrong (s : Shape) (told : Option Refusal) : Type 0 where
  pub size : (told ≡ Some unlawful_size) ↔ (¬ (Sized s))
  pub count : (told ≡ Some unlawful_place_count) ↔ (Sized s × (¬ (Counted s)))
  pub unlawful :
      (i : ℕ) → (told ≡ Some (unlawful_direction i))
      ↔ (Sized s × Counted s × FirstUnlawful s.records i)
  pub disorder :
      (i : ℕ) → (told ≡ Some (disordered_direction i))
      ↔ (Sized s × Counted s × FirstDisorder s.records i)
