-- What a source means: the size of a tile, its places, and the sums of the places that are whole.
-- Which meanings are lawful, which tiles agree with one, and which tiles vanish in it.
use Rattle.std.specs.Prelude.{◌≡◌, ℕ, suc, ◌*◌, ◌<◌, Bool, true, cond, ◌&&◌, List, [], ◌∷◌, map, length, pos, Some, None, Option, nat_le, slice_index_or}
use Rattle.std.specs.List.{AllByRecursion}
use Rattle.samples.specs.declared.kind.Kind.{Ghosts as Operations}
use Rattle.mojette.specs.declared.direction.Direction.{Direction}
use Rattle.mojette.specs.declared.direction.Record.{Record}
use Rattle.mojette.specs.Bounds.{most_side, most_places}
use Rattle.mojette.specs.Directions.{lawful, before}
use Rattle.mojette.specs.Bins.{bins, whole, all_bins, whole_directions}
use Rattle.mojette.specs.Ghosts.{Ghost as DirectionGhost}
use Rattle.mojette.specs.Refusals.{Refusal, unlawful_size, unlawful_place_count, unlawful_direction, disordered_direction}
use Rattle.mojette.specs.Transform.{bin_sum}

-- The shape of a tile: P columns, Q rows, and the records of its places.
pub record Shape : Type 0 where
  pub P : ℕ
  pub Q : ℕ
  pub records : List Record

-- A place has its record and the sums of its bins, which count where it is whole and are zero beyond the list.
pub record Place (S : Type 0) : Type 0 where
  pub entry : Record
  pub sums : List S

pub record Meaning (S : Type 0) : Type 0 where
  pub P : ℕ
  pub Q : ℕ
  pub places : List (Place S)

-- what a list of records, or of places, says beyond its end
abbrev pub no_record : Record
no_record = record { direction = record { p = pos 0; q = pos 1 }; cause = 0 }

abbrev pub no_place : {S : Type 0} → Place S
no_place = record { entry = no_record; sums = [] }

abbrev pub shape_of : {S : Type 0} → Meaning S → Shape
shape_of m = record { P = m.P; Q = m.Q; records = map (λ x. x.entry) m.places }

abbrev pub pixels_of : Shape → ℕ
pixels_of s = s.P * s.Q

-- T
abbrev pub bins_of : Shape → ℕ
bins_of s = all_bins s.P s.Q s.records

-- Lawfulness ------------------------------------------------------------------------------------------------------

abbrev pub side_ok : ℕ → Bool
side_ok n = nat_le 1 n && nat_le n most_side

-- the refusal of the sizes, none where a tile may have them
abbrev pub sides_verdict : ℕ → ℕ → Option Refusal
sides_verdict P Q = cond (side_ok P && side_ok Q) None (Some unlawful_size)

abbrev pub number_ok : ℕ → Bool
number_ok n = nat_le 1 n && nat_le n most_places

-- d comes after the direction before it, if there is one
abbrev pub follows : Option Direction → Direction → Bool
follows None d = true
follows (Some e) d = before e d

-- the first refusal among the places from i on, of which `last` comes before place i
abbrev pub places_verdict : ℕ → Option Direction → List Record → Option Refusal
places_verdict i last [] = None
places_verdict i last (e ∷ es) =
    cond (lawful e.direction)
    (cond (follows last e.direction)
    (places_verdict (suc i) (Some e.direction) es)
    (Some (disordered_direction i)))
    (Some (unlawful_direction i))

-- The first refusal of a shape: its sizes, its number of places, then each place in turn. None where it is lawful.
unfoldable pub verdict : Shape → Option Refusal
verdict s =
    cond (side_ok s.P && side_ok s.Q)
    (cond (number_ok (length s.records)) (places_verdict 0 None s.records) (Some unlawful_place_count))
    (Some unlawful_size)

abbrev pub Lawful : Shape → Type 0
Lawful s = verdict s ≡ None

-- Tiles and a meaning ---------------------------------------------------------------------------------------------

module _ {S : Type 0} (K : Operations S) (m : Meaning S) where
  -- A tile agrees with a source when its size is P by Q and in every whole place its sums are the source's.
  pub record Agrees (tile : List S) : Type 0 where
    pub size : length tile ≡ m.P * m.Q
    pub sums :
        AllByRecursion (λ x. whole x.entry ≡ true → (b : ℕ) → b < bins m.P m.Q x.entry.direction
        → bin_sum K m.P m.Q tile x.entry.direction b ≡ slice_index_or x.sums b K.zero) m.places

  -- A ghost is a tile that is not zero, and sums to zero in every bin of every whole place.
  abbrev pub Ghost : List S → Type 0
  Ghost tile = DirectionGhost K m.P m.Q (whole_directions (shape_of m).records) tile
