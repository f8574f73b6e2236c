-- The counts of a place, bin after bin.
use Rattle.std.proofs.Common.{◌≡◌, ℕ, ◌+◌, ◌-◌, ◌*◌, ◌<◌, ◌≤◌, true, false, ◌&&◌, ◌⊎◌, sym, ap, ◌∙◌, inl, inr, ⊎_elim, arith}
use Rattle.std.proofs.lemmas.Bool.{cases_lt}
use Rattle.mojette.specs.Bins.{bins, in_bin, whole}
use Rattle.peeling.proofs.Counts.{number_same, number_zero}
use Rattle.plan.specs.declared.places.Place.{Place}
use Rattle.plan.specs.Laid.{direction_of, record_of}
use Rattle.plan.proofs.Cells.{size_of}
use Rattle.walk.specs.Counts.{pixels_of_bin}
use Rattle.walk.specs.Lines.{OnTile}
use Rattle.walk.specs.Passing.{columns_at}
use Rattle.walk.proofs.Cells.{pixels_by_rows}
use Rattle.walk.proofs.Tallies.{in_rows, one_row_on, only_first_row, few_columns, rows_most, down_the_rows, across_the_columns}

one : (n : ℕ) → 1 ≤ n → (1 < n → ◌≡◌ {A = ℕ} 1 0) → n ≡ 1
one n some few = ⊎_elim (λ (h : 1 < n). absurd (let z = few h in omega arith)) (λ (h : n ≤ 1). omega arith) (cases_lt 1 n)

module _ (P Q : ℕ) (x : Place) where
  abbrev N : ℕ → ℕ
  N = pixels_of_bin P Q x

  pub none_in_lost : whole (record_of x) ≡ false → (b : ℕ) → 0 ≡ N b
  none_in_lost lost b = sym (number_zero (P * Q) _ (λ c l. ap (λ t. t && in_bin P Q (direction_of x) c b) lost))

  module _ (is_whole : whole (record_of x) ≡ true) where
    by_rows : (b : ℕ) → N b ≡ in_rows P Q x.q x.slope b
    by_rows b = number_same (P * Q) _ _ (λ c l. ap (λ t. t && in_bin P Q (direction_of x) c b) is_whole) ∙ pixels_by_rows P Q x b

    -- A direction along an edge -----------------------------------------------------------------------------------

    module _ (line : OnTile P Q x.q x.slope 0) (b : ℕ) (inside : b < bins P Q (direction_of x)) where
      below : b ≤ (P - 1) * x.q + (Q - 1) * x.slope
      below = let e = ap (λ (n : ℕ). (Q - 1) * n) (size_of x.leftward x.slope) in omega arith

      pub down : x.slope ≡ 0 → Q ≡ N b
      down flat =
          let q = one x.q (omega (arith, line.steps)) (line.coprime 0 1 (omega arith)).1 in
          sym (by_rows b ∙ down_the_rows P Q x.q x.slope q flat b (omega (arith, below, line.some_columns, ap (λ n. (P - 1) * n) q, ap (λ n. (Q - 1) * n) flat)))

      pub across : x.q ≡ 0 → P ≡ N b
      across level =
          let s = one x.slope (omega (arith, line.steps)) (line.coprime 1 0 (omega arith)).0 in
          sym (by_rows b ∙ across_the_columns P Q x.q x.slope level s b (omega (arith, below, line.some_rows, ap (λ n. (P - 1) * n) level, ap (λ n. (Q - 1) * n) s)))

    -- A slanted direction -----------------------------------------------------------------------------------------

    module _ (some_rows : 1 ≤ Q) (down : 1 ≤ x.q) (b before begun : ℕ) (begins : begun ≡ columns_at P x.q 0 b) where
      -- what the bin one row before has, if there is one
      abbrev pub Before : Type 0
      Before = ((b < x.slope) × (before ≡ 0)) ⊎ ((x.slope ≤ b) × (before ≡ N (b - x.slope)))

      balanced : Before → N b + columns_at P x.q (Q * x.slope) b ≡ before + begun
      balanced (inl h) = let e = only_first_row P Q x.q x.slope b h.0 some_rows in let f = by_rows b in omega (arith, h.1)
      balanced (inr h) =
          let e : b - x.slope + x.slope ≡ b = omega (arith, h.0) in
          let on = one_row_on P Q x.q x.slope (b - x.slope) in
          omega (arith, h.1, by_rows b, by_rows (b - x.slope), ap (λ n. in_rows P Q x.q x.slope n) e, ap (columns_at P x.q (Q * x.slope)) e, ap (columns_at P x.q 0) e)

      few : Before → before ≤ Q
      few (inl h) = omega (arith, h.1)
      few (inr h) = omega (arith, h.1, by_rows (b - x.slope), rows_most P Q x.q x.slope down (b - x.slope))

      pub turn : Before → (N b + columns_at P x.q (Q * x.slope) b ≡ before + begun) × (before + begun ≤ Q + 1)
      turn h = (balanced h, omega (arith, few h, few_columns P x.q 0 b down))
