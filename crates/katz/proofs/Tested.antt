-- The test of Katz's criterion.
use Rattle.std.proofs.Common.{◌≡◌, ℕ, ◌≤◌, true, false, leb, List, inl, inr, ⊎_elim}
use Rattle.std.proofs.lemmas.Bool.{leb-true, le-leb, both_ways, or_cases, or_left, or_right}
use Rattle.mojette.specs.declared.direction.Direction.{Direction}
use Rattle.mojette.specs.Directions.{columns, rows}
use Rattle.katz.specs.Sets.{Criterion, enough, Tested}

pub tested : Tested
tested P Q ds = (
  (λ e. ⊎_elim
      (λ (t : leb P (columns ds) ≡ true). inl (leb-true _ _ t))
      (λ (t : leb Q (rows ds) ≡ true). inr (leb-true _ _ t))
      (or_cases _ _ e)),
  λ c. ⊎_elim
      (λ (l : P ≤ columns ds). or_left (leb P (columns ds)) _ (le-leb _ _ l))
      (λ (l : Q ≤ rows ds). or_right (leb P (columns ds)) _ (le-leb _ _ l))
      c,
)

pub not_enough : (P Q : ℕ) (ds : List Direction) → enough P Q ds ≡ false → ¬ (Criterion P Q ds)
not_enough P Q ds e c = both_ways (enough P Q ds) e ((tested P Q ds).1 c)
