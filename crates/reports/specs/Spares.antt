-- Which places of a plan could be spared.
use Rattle.std.specs.Prelude.{ℕ, zero, suc, Bool, false, cond, not, List, [], ◌∷◌, ◌++◌, length, filter, slice_get, Some, None, Option, decimal, codes as text, ◌==◌}
use Rattle.std.specs.List.{flat_map, range_with_len}
use Rattle.mojette.specs.declared.direction.Record.{Record}
use Rattle.mojette.specs.Bins.{whole}
use Rattle.mojette.specs.Meaning.{Shape}
use Rattle.plan.specs.declared.places.Place.{Place}
use Rattle.plan.specs.Criteria.{criterion_of}
use Rattle.plan.specs.Laid.{record_of}

-- the records without that of place i
abbrev pub without : ℕ → List Record → List Record
without i [] = []
without zero (e ∷ es) = es
without (suc i) (e ∷ es) = e ∷ without i es

-- the shape without place i
abbrev pub shape_without : ℕ → Shape → Shape
shape_without i s = record { P = s.P; Q = s.Q; records = without i s.records }

-- Katz's criterion still holds without place i, by the test that tells it of any shape.
abbrev pub could_spare : Shape → ℕ → Bool
could_spare s i = (criterion_of (shape_without i s)).enough

-- the places that could be spared, each for itself
abbrev pub spares : Shape → List ℕ
spares s = filter (could_spare s) (range_with_len 0 (length s.records))

-- what a place adds to C and R
abbrev pub part_of : Option Place → ℕ × ℕ
part_of None = (0, 0)
part_of (Some x) = cond (whole (record_of x)) (x.slope, x.q) (0, 0)

abbrev pub verdict_words : Bool → List ℕ
verdict_words enough = cond enough (text "enough") (text "too few")

-- whether the criterion holds, with C beside P, and R beside Q
abbrev pub reach_words : Shape → List ℕ
reach_words s =
    (verdict_words (criterion_of s).enough ++ text ": C " ++ decimal (criterion_of s).columns ++ text " for P " ++ decimal s.P)
    ++ (text ", R " ++ decimal (criterion_of s).rows ++ text " for Q " ++ decimal s.Q ++ 10 ∷ [])

-- places by their numbers, each after a space, or that there are none
abbrev pub places_words : List ℕ → List ℕ
places_words ns = cond (length ns == 0) (text " none") (flat_map (λ n. 32 ∷ decimal n) ns)

-- what is told of a shape
abbrev pub criterion_text : Shape → List ℕ
criterion_text s = reach_words s ++ text "could be spared, one at a time:" ++ places_words (spares s) ++ 10 ∷ []

abbrev pub is_lost : Option Place → Bool
is_lost None = false
is_lost (Some x) = not (whole (record_of x))

-- the places that are lost
abbrev pub lost_places : Shape → List Place → List ℕ
lost_places s xs = filter (λ i. is_lost (slice_get xs i)) (range_with_len 0 (length s.records))

-- what is told where the whole places are too few
abbrev pub ghost_words : Shape → List Place → List ℕ
ghost_words s xs = cond (criterion_of s).enough [] (reach_words s ++ text "lost places:" ++ places_words (lost_places s xs) ++ 10 ∷ [])
