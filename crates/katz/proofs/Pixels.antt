-- Searches through the pixels of a tile, cell by cell: pixel (k, l) lies in cell l·P + k.
use Rattle.std.proofs.Common.{◌≡◌, ℕ, zero, suc, ◌+◌, ◌*◌, ◌/◌, ◌%◌, ◌<◌, Bool, true, false, ◌⊎◌, ℤ, ◌≤ℤ◌, sym, subst₂, inl, inr, arith}
use Rattle.std.proofs.lemmas.Bool.{both_ways}
use Rattle.std.proofs.lemmas.Nat.{mod-mul-add, div-mul-add, mul-add-lt, mod_below, div_below}
use Rattle.katz.specs.Sets.{Pixels, Within, Nonempty}
use Rattle.katz.proofs.Search.{search_below, least_below, Least}

some_column : (P Q c : ℕ) → c < P * Q → 0 < P
some_column zero Q c h = absurd (omega arith)
some_column (suc P) Q c h = omega arith

module _ (P Q : ℕ) where
  pub column_below : (c : ℕ) → c < P * Q → c % P < P
  column_below c h = mod_below c P (some_column P Q c h)

  pub row_below : (c : ℕ) → c < P * Q → c / P < Q
  row_below c h = div_below c P Q (some_column P Q c h) (omega arith)

  pub cell_below : (k l : ℕ) → k < P → l < Q → l * P + k < P * Q
  cell_below k l h h' = mul-add-lt l P k Q h' h

  -- what holds of the pixel of a cell, at the cell's column and row, and back
  pub at_pixel : (F : ℕ → ℕ → Type 0) (k l : ℕ) → k < P → F ((l * P + k) % P) ((l * P + k) / P) → F k l
  at_pixel F k l h f = subst₂ F (mod-mul-add l P k h) (div-mul-add l P k h) f

  pub at_cell : (F : ℕ → ℕ → Type 0) (k l : ℕ) → k < P → F k l → F ((l * P + k) % P) ((l * P + k) / P)
  at_cell F k l h f = subst₂ F (sym (mod-mul-add l P k h)) (sym (div-mul-add l P k h)) f

  -- Of two things one of which holds at each pixel, the first holds at all, or the second at one.
  pub search_pixels :
      (A B : ℕ → ℕ → Type 0) → ((k l : ℕ) → k < P → l < Q → A k l ⊎ B k l)
      → ((k l : ℕ) → k < P → l < Q → A k l) ⊎ ((k : ℕ) × (l : ℕ) × B k l)
  search_pixels A B f =
      go (search_below {A = λ c. A (c % P) (c / P)} {B = λ c. B (c % P) (c / P)} (P * Q) (λ c h. f (c % P) (c / P) (column_below c h) (row_below c h)))
    where
      go : ((c : ℕ) → c < P * Q → A (c % P) (c / P)) ⊎ ((c : ℕ) × (c < P * Q) × B (c % P) (c / P)) → ((k l : ℕ) → k < P → l < Q → A k l) ⊎ ((k : ℕ) × (l : ℕ) × B k l)
      go (inl all) = inl (λ k l h h'. at_pixel A k l h (all (l * P + k) (cell_below k l h h')))
      go (inr w) = inr (w.0 % P, w.0 / P, w.2)

-- the pixel of S where f is least
pub record Lowest (S : Pixels) (f : ℕ → ℕ → ℤ) : Type 0 where
  pub k : ℕ
  pub l : ℕ
  pub here : S k l ≡ true
  pub least : (i j : ℕ) → S i j ≡ true → f k l ≤ℤ f i j

pub lowest : (P Q : ℕ) (S : Pixels) → Within P Q S → Nonempty S → (f : ℕ → ℕ → ℤ) → Lowest S f
lowest P Q S inside some f = go (least_below (P * Q) test value)
  where
    test : ℕ → Bool
    test c = S (c % P) (c / P)

    value : ℕ → ℤ
    value c = f (c % P) (c / P)

    In : ℕ → ℕ → Type 0
    In k l = S k l ≡ true

    go : ((c : ℕ) → c < P * Q → test c ≡ false) ⊎ Least (P * Q) test value → Lowest S f
    go (inl none) =
        let within = inside some.k some.l some.here in
        let c = some.l * P + some.k in
        absurd (both_ways (test c) (none c (cell_below P Q some.k some.l within.0 within.1))
        (at_cell P Q In some.k some.l within.0 some.here))
    go (inr m) =
        record {
          k = m.at % P;
          l = m.at / P;
          here = m.passes;
          least = λ i j h.
              let within = inside i j h in
              at_pixel P Q (λ i j. value m.at ≤ℤ f i j) i j within.0
              (m.least (j * P + i) (cell_below P Q i j within.0 within.1) (at_cell P Q In i j within.0 h));
        }
