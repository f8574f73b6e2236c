-- A tile agrees with a source place by place exactly when it does position by position.
use Rattle.std.proofs.Common.{◌≡◌, ℕ, ◌+◌, ◌*◌, ◌<◌, true, cond, ◌&&◌, List, [], ◌∷◌, map, get_or, sym, ap, ◌∙◌, arith}
use Rattle.std.specs.List.{AllByRecursion}
use Rattle.samples.specs.declared.kind.Kind.{Ghosts as Operations}
use Rattle.samples.specs.Sums.{sum_below}
use Rattle.mojette.specs.declared.direction.Record.{Record}
use Rattle.mojette.specs.Bins.{bins, in_bin, whole, all_bins}
use Rattle.mojette.specs.Meaning.{Place, Meaning, Agrees, shape_of}
use Rattle.mojette.specs.Transform.{bin_sum}
use Rattle.peeling.specs.Incidence.{Agrees as PositionAgrees}
use Rattle.samples.proofs.Sums.{sum_same}
use Rattle.law.specs.Positions.{incidence, whole_at, lies_at, sum_at}
use Rattle.law.proofs.Places.{B, lies_here, lies_there, whole_here, whole_there, sum_here, sum_there, Split, here, there, split}

-- the records of the places
abbrev pub records : {S : Type 0} → List (Place S) → List Record
records places = map (λ x. x.entry) places

module _ {S : Type 0} (K : Operations S) (m : Meaning S) where
  -- the source's sums, by position
  abbrev pub source : ℕ → S
  source = sum_at m.P m.Q K.zero m.places

  module _ (tile : List S) where
    -- the tile's sum at a position of the places es
    abbrev sum_in : List Record → ℕ → S
    sum_in es x = sum_below K (m.P * m.Q) (λ c. cond (lies_at m.P m.Q es c x) (get_or tile c K.zero) K.zero)

    at_head : (e : Record) (es : List Record) (x : ℕ) → x < B m.P m.Q e → whole e ≡ true → sum_in (e ∷ es) x ≡ bin_sum K m.P m.Q tile e.direction x
    at_head e es x l w = sum_same K (m.P * m.Q) _ _
        (λ c _. ap (λ t. cond t (get_or tile c K.zero) K.zero)
        (lies_here m.P m.Q e es c x l ∙ ap (λ t. t && in_bin m.P m.Q e.direction c x) w))

    at_tail : (e : Record) (es : List Record) (y : ℕ) → sum_in (e ∷ es) (B m.P m.Q e + y) ≡ sum_in es y
    at_tail e es y = sum_same K (m.P * m.Q) _ _ (λ c _. ap (λ t. cond t (get_or tile c K.zero) K.zero) (lies_there m.P m.Q e es c y))

    abbrev PlaceAgrees : Place S → Type 0
    PlaceAgrees x = whole x.entry ≡ true → (b : ℕ) → b < bins m.P m.Q x.entry.direction
        → bin_sum K m.P m.Q tile x.entry.direction b ≡ get_or x.sums b K.zero

    abbrev AtPositions : List (Place S) → Type 0
    AtPositions places = (x : ℕ) → x < all_bins m.P m.Q (records places) → whole_at m.P m.Q (records places) x ≡ true
        → sum_in (records places) x ≡ sum_at m.P m.Q K.zero places x

    to_positions : (places : List (Place S)) → AllByRecursion PlaceAgrees places → AtPositions places
    to_positions [] all x l w = absurd (omega arith)
    to_positions (a ∷ rest) all x l w = go (split m.P m.Q a.entry (records rest) x l) (to_positions rest all.1) w
      where
        go : {x : ℕ} → Split m.P m.Q a.entry (records rest) x → AtPositions rest → whole_at m.P m.Q (records (a ∷ rest)) x ≡ true
            → sum_in (records (a ∷ rest)) x ≡ sum_at m.P m.Q K.zero (a ∷ rest) x
        go (here {x} k) later w =
            let w' : whole a.entry ≡ true = sym (whole_here m.P m.Q a.entry (records rest) x k) ∙ w in
            at_head a.entry (records rest) x k w' ∙ all.0 w' x k ∙ sym (sum_here m.P m.Q K.zero a rest x k)
        go (there {y} k) later w =
            at_tail a.entry (records rest) y
            ∙ later y k (sym (whole_there m.P m.Q a.entry (records rest) y) ∙ w)
            ∙ sym (sum_there m.P m.Q K.zero a rest y)

    from_positions : (places : List (Place S)) → AtPositions places → AllByRecursion PlaceAgrees places
    from_positions [] at = tt
    from_positions (a ∷ rest) at = (
      (λ w b l.
          sym (at_head a.entry (records rest) b l w)
          ∙ at b (omega arith) (whole_here m.P m.Q a.entry (records rest) b l ∙ w)
          ∙ sum_here m.P m.Q K.zero a rest b l),
      from_positions rest
          (λ y l w.
          sym (at_tail a.entry (records rest) y)
          ∙ at (B m.P m.Q a.entry + y) (omega arith) (whole_there m.P m.Q a.entry (records rest) y ∙ w)
          ∙ sum_there m.P m.Q K.zero a rest y),
    )

    pub agrees_by_position : Agrees K m tile → PositionAgrees K (incidence (shape_of m)) source tile
    agrees_by_position g = record { size = g.size; sums = to_positions m.places g.sums }

    pub agrees_by_place : PositionAgrees K (incidence (shape_of m)) source tile → Agrees K m tile
    agrees_by_place g = record { size = g.size; sums = from_positions m.places g.sums }
