-- The ghost, place by place.
use Rattle.std.proofs.Common.{◌≡◌, ℕ, ◌+◌, ◌*◌, ◌<◌, ◌≤◌, Bool, true, false, cond, List, ◌∷◌, ◌++◌, length, drop, sym, ap, ◌∙◌, subst}
use Rattle.std.proofs.lemmas.List.{at_drop_more, at_drop_all}
use Rattle.samples.specs.declared.kind.Kind.{Ghosts as Operations}
use Rattle.mojette.specs.Bins.{whole, whole_directions}
use Rattle.katz.specs.Made.{Picture, step, steps, made, ghost_tile}
use Rattle.plan.specs.declared.places.Place.{Place}
use Rattle.plan.specs.Laid.{direction_of, record_of, records_of, no_place, place_at}
use Rattle.plan.specs.Pictures.{picture_of}
use Rattle.plan.proofs.Shows.{tile_shown}

module _ {S : Type 0} (K : Operations S) (P Q : ℕ) where
  -- the steps of the whole places among these
  abbrev steps_of : List Place → Picture S → Picture S
  steps_of xs f = steps K P Q (whole_directions (records_of xs)) f

  -- After i of the places xs: what is left of them makes the ghost of the places ys. The cells past the tile are as in base.
  pub record MadeOf (xs ys : List Place) (base : List S) (i : ℕ) (cells : List S) : Type 0 where
    pub ahead : steps_of (drop i xs) (picture_of K P Q cells) ≡ made K P Q (whole_directions (records_of ys))
    pub others : drop (P * Q) cells ≡ drop (P * Q) base

  module _ (xs ys : List Place) (base : List S) (i : ℕ) (l : i < length xs) (old new : List S) (so_far : MadeOf xs ys base i old) where
    -- a place before others, if it is whole
    abbrev joined : Picture S → Bool → Picture S
    joined f w =
        let ds = whole_directions (records_of (drop (i + 1) xs)) in
        steps K P Q (cond w (direction_of (place_at xs i) ∷ ds) ds) f

    first : (f : Picture S) (w : Bool) → whole (record_of (place_at xs i)) ≡ w → steps_of (drop i xs) f ≡ joined f w
    first f w e = at_drop_more (λ zs. steps_of zs f) xs i no_place l ∙ ap (joined f) e

    pub makes_whole :
        (last : List S) → whole (record_of (place_at xs i)) ≡ true → new ≡ last
        → picture_of K P Q last ≡ step K P Q (direction_of (place_at xs i)) (picture_of K P Q old)
        → drop (P * Q) last ≡ drop (P * Q) old → MadeOf xs ys base (i + 1) new
    makes_whole last w e shows others =
        record {
          ahead = ap (steps_of (drop (i + 1) xs)) (ap (picture_of K P Q) e ∙ shows) ∙ sym (first (picture_of K P Q old) true w) ∙ so_far.ahead;
          others = ap (drop (P * Q)) e ∙ others ∙ so_far.others;
        }

    pub makes_lost : whole (record_of (place_at xs i)) ≡ false → new ≡ old → MadeOf xs ys base (i + 1) new
    makes_lost w e =
        subst (MadeOf xs ys base (i + 1)) (sym e)
        (record { ahead = sym (first (picture_of K P Q old) false w) ∙ so_far.ahead; others = so_far.others })

  -- After all of them the tile stands in the first cells.
  pub makes_end :
      (xs ys : List Place) (base : List S) (i : ℕ) (old new : List S) → length xs ≤ i → P * Q ≤ length new → drop (P * Q) base ≡ drop (P * Q) old
      → MadeOf xs ys base i new → new ≡ ghost_tile K P Q (whole_directions (records_of ys)) ++ drop (P * Q) old
  makes_end xs ys base i old new l room before so_far =
      tile_shown K P Q (made K P Q (whole_directions (records_of ys))) old new room
      (sym (at_drop_all (λ zs. steps_of zs (picture_of K P Q new)) xs i l) ∙ so_far.ahead) (so_far.others ∙ before)
