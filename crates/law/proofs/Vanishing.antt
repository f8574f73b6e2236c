-- Under the criterion a source has no ghost, and where it fails seal shows one.
use Rattle.std.proofs.Common.{◌≡◌, ℕ, ◌*◌, ◌<◌, ◌≤◌, List, length, take as first, sym, ◌∙◌, subst, arith}
use Rattle.std.proofs.lemmas.List.FromFn.{length-map-range_with_len, get_or-map-range_with_len}
use Rattle.std.proofs.lemmas.List.{get_or-take, length-take-le, ext_get_or}
use Rattle.samples.specs.declared.kind.Kind.{Ghosts as Operations}
use Rattle.mojette.specs.declared.direction.Direction.{Direction}
use Rattle.mojette.specs.Bins.{whole_directions}
use Rattle.mojette.specs.Directions.{LawfulDirections}
use Rattle.mojette.specs.Meaning.{Meaning, Ghost, Lawful, shape_of}
use Rattle.katz.specs.Made.{made, cell_of, ghost_tile}
use Rattle.katz.specs.Sets.{Criterion}
use Rattle.katz.proofs.Katz.{katz}
use Rattle.katz.proofs.Made.{ghost_is_made}
use Rattle.katz.proofs.Order.{whole_lawful}
use Rattle.peeling.specs.Steps.{filled}
use Rattle.peeling.proofs.Loops.{length-filled, get_or-filled}
use Rattle.law.specs.Steps.{ghosted}
use Rattle.law.proofs.Agreement.{records}
use Rattle.law.proofs.Opening.{opens}

module _ {S : Type 0} where
  -- the directions of the whole places
  abbrev pub ds : Meaning S → List Direction
  ds m = whole_directions (records m.places)

module _ {S : Type 0} (K : Operations S) (m : Meaning S) where
  module _ (lawful : Lawful (shape_of m)) where
    pub whole_laws : LawfulDirections (ds m)
    whole_laws = whole_lawful (records m.places) (opens (shape_of m) lawful).directions

    -- under the criterion there is no ghost
    pub no_ghost : Criterion m.P m.Q (ds m) → (tile : List S) → Ghost K m tile → ⊥
    no_ghost holds tile g = (katz K m.P m.Q (records m.places) (opens (shape_of m) lawful).directions).1 (tile, g) holds

    -- where it fails the picture that seal leaves holds one
    module _ (fails : ¬ (Criterion m.P m.Q (ds m))) (picture : List S) (long : m.P * m.Q ≤ length picture) where
      shown_is : first (m.P * m.Q) (ghosted K (shape_of m) picture) ≡ ghost_tile K m.P m.Q (ds m)
      unfolding ghosted
      shown_is = ext_get_or K.zero _ _ (shown_length ∙ sym (length-map-range_with_len cell 0 (m.P * m.Q)))
          (λ c l. let i : c < m.P * m.Q = subst (λ n. c < n) shown_length l in
          get_or-take (m.P * m.Q) _ c K.zero i
          ∙ get_or-filled (m.P * m.Q) cell picture K.zero c long i
          ∙ sym (get_or-map-range_with_len cell 0 (m.P * m.Q) c c K.zero i (omega arith)))
        where
          cell : ℕ → S
          cell = cell_of m.P (made K m.P m.Q (ds m))

          shown_length : length (first (m.P * m.Q) (filled (m.P * m.Q) cell picture)) ≡ m.P * m.Q
          shown_length = length-take-le (m.P * m.Q) _ (subst (λ n. m.P * m.Q ≤ n) (sym (length-filled (m.P * m.Q) cell picture)) long)

      pub ghost_shown : Ghost K m (first (m.P * m.Q) (ghosted K (shape_of m) picture))
      ghost_shown = subst (Ghost K m) (sym shown_is) (ghost_is_made K m.P m.Q (ds m) whole_laws fails).ghost
