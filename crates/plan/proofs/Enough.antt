-- Katz's criterion of a plan, and what follows of it.
use Rattle.std.proofs.Common.{◌≡◌, ℕ, ◌<◌, true, false, leb, ◌⊎◌, List, length, take, drop, is_some, sym, ap, ◌∙◌, subst, inl, inr, arith}
use Rattle.std.proofs.lemmas.List.{take_at}
use Rattle.std.proofs.lemmas.Bool.{cases_Bool, leb-false, or_parts}
use Rattle.samples.specs.declared.kind.Kind.{Ghosts as Operations}
use Rattle.mojette.specs.Bins.{whole}
use Rattle.mojette.specs.Directions.{columns}
use Rattle.mojette.specs.Meaning.{Shape, pixels_of, verdict}
use Rattle.katz.specs.Ghosts.{Ghost}
use Rattle.katz.specs.Made.{leftward, ghost_tile}
use Rattle.katz.specs.Sets.{Criterion}
use Rattle.katz.proofs.Boxes.{both_parts}
use Rattle.katz.proofs.Katz.{katz}
use Rattle.katz.proofs.Made.{ghost_is_made}
use Rattle.katz.proofs.Order.{whole_lawful}
use Rattle.katz.proofs.Tested.{tested, not_enough}
use Rattle.plan.specs.declared.places.Place.{Place}
use Rattle.plan.specs.declared.plan.Plan.{Plan}
use Rattle.plan.specs.Criteria.{whole_of, criterion_of, KatzHolds}
use Rattle.plan.specs.Laid.{record_of, place_at}
use Rattle.plan.specs.Shapes.{shape, places_of}
use Rattle.plan.specs.Showing.{ghosted, HoldsGhost}
use Rattle.plan.proofs.Cells.{size_of}
use Rattle.plan.proofs.Reaching.{columns_total, over, over_whole, over_part}
use Rattle.plan.proofs.Lawful.{lawful_directions}

module _ (s : Shape) where
  module _ (fails : (criterion_of s).enough ≡ false) where
    few_columns : columns (whole_of s) < s.P
    few_columns = leb-false s.P _ (or_parts (leb s.P (columns (whole_of s))) _ fails).0

    -- The spark stands in the tile.
    pub spark_inside : leftward (whole_of s) < s.P
    spark_inside = omega (arith, few_columns, both_parts (whole_of s))

  module _ {S : Type 0} (K : Operations S) (law : is_some (verdict s) ≡ false) where
    pub katz_holds : KatzHolds K s (criterion_of s).enough
    katz_holds =
        let theorem = katz K s.P s.Q s.records (lawful_directions s law) in
        (λ e. theorem.0 (not_enough s.P s.Q (whole_of s) e), λ ghost. go (theorem.1 ghost) (cases_Bool (criterion_of s).enough))
      where
        go : ¬ (Criterion s.P s.Q (whole_of s)) → ((criterion_of s).enough ≡ true) ⊎ ((criterion_of s).enough ≡ false) → (criterion_of s).enough ≡ false
        go none (inl t) = absurd (none ((tested s.P s.Q (whole_of s)).0 t))
        go none (inr t) = t

    pub ghost_stands : (criterion_of s).enough ≡ false → (old new : List S) → new ≡ ghosted K s old → HoldsGhost K s new
    ghost_stands fails old new e =
        let ghost = (ghost_is_made K s.P s.Q (whole_of s) (whole_lawful s.records (lawful_directions s law)) (not_enough s.P s.Q (whole_of s) fails)).ghost in
        subst (Ghost K s.P s.Q (whole_of s))
        (sym (ap (take (pixels_of s)) e ∙ take_at (ghost_tile K s.P s.Q (whole_of s)) (drop (pixels_of s) old) (pixels_of s) ghost.size)) ghost

-- Each whole place goes aside by less than the columns of the tile.
pub place_narrow :
    (plan : Plan) (xs : List Place) (i : ℕ) → xs ≡ places_of plan → i < length xs → whole (record_of (place_at xs i)) ≡ true
    → (criterion_of (shape plan)).enough ≡ false → (place_at xs i).slope < plan.size.columns
place_narrow plan xs i e l w fails =
    omega (arith, size_of (place_at xs i).leftward (place_at xs i).slope, over_whole columns_total xs i l w, over_part columns_total xs i, ap (over columns_total) e, few_columns (shape plan) fails)
