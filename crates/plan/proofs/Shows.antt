-- Cells that show a picture.
use Rattle.std.proofs.Common.{◌≡◌, ℕ, zero, suc, ◌+◌, ◌*◌, ◌/◌, ◌%◌, ◌<◌, ◌≤◌, true, false, cond, ◌&&◌, eqb, ◌⊎◌, List, ◌++◌, length, get_or, take, drop, ℤ, pos, negsuc, nat_abs, sym, refl, ap, ◌∙◌, ap₂, inl, inr, arith, take-append-drop}
use Rattle.std.proofs.lemmas.Nat.{div-add-mod'}
use Rattle.std.proofs.lemmas.List.FromFn.{fill_by_all}
use Rattle.std.proofs.lemmas.List.{get_or-take, length-take-le}
use Rattle.std.proofs.lemmas.Bool.{cases_Bool, both_ways, false≢true, ltb-true, lt-ltb, eq-eqb, ne_eqb, and_parts, and_from, cond-true, cond-false}
use Rattle.samples.specs.declared.kind.Kind.{Ghosts as Operations}
use Rattle.mojette.specs.Directions.{equal}
use Rattle.mojette.proofs.Equal.{equal_true, equal_same}
use Rattle.katz.specs.Made.{Picture, below, cell_of, start, tile_of}
use Rattle.katz.proofs.Pixels.{column_below, row_below, cell_below, at_cell}
use Rattle.plan.specs.Pictures.{picture_of}

module _ {S : Type 0} (K : Operations S) (P Q : ℕ) where
  -- zero outside the tile
  abbrev pub Inside : Picture S → Type 0
  Inside f = (k l : ℤ) → below P k && below Q l ≡ false → f k l ≡ K.zero

  abbrev pub HoldsCells : Picture S → List S → Type 0
  HoldsCells f cells = (c : ℕ) → c < P * Q → get_or cells c K.zero ≡ cell_of P f c

  pub shows : (f : Picture S) (cells : List S) → Inside f → HoldsCells f cells → picture_of K P Q cells ≡ f
  shows f cells zero_out holds = λ i k l. everywhere k l i
    where
      at : (k l : ℤ) → below P k ≡ true → below Q l ≡ true → get_or cells (nat_abs l * P + nat_abs k) K.zero ≡ f k l
      at (pos k) (pos l) hk hl =
          let h = ltb-true k P hk in
          holds (l * P + k) (cell_below P Q k l h (ltb-true l Q hl)) ∙ at_cell P Q (λ i j. f (pos i) (pos j) ≡ f (pos k) (pos l)) k l h refl
      at (pos k) (negsuc l) hk hl = absurd (false≢true hl)
      at (negsuc k) l hk hl = absurd (false≢true hk)

      go : (k l : ℤ) → (below P k && below Q l ≡ true) ⊎ (below P k && below Q l ≡ false) → picture_of K P Q cells k l ≡ f k l
      go k l (inl t) = let inside = and_parts (below P k) (below Q l) t in cond-true _ _ K.zero t ∙ at k l inside.0 inside.1
      go k l (inr t) = cond-false _ _ K.zero t ∙ sym (zero_out k l t)

      everywhere : (k l : ℤ) → picture_of K P Q cells k l ≡ f k l
      everywhere k l = go k l (cases_Bool (below P k && below Q l))

  holds_shown : (f : Picture S) (cells : List S) → picture_of K P Q cells ≡ f → HoldsCells f cells
  holds_shown f cells e c h =
      ap (λ (n : ℕ). get_or cells n K.zero) (sym (div-add-mod' c P)) ∙ sym (cond-true _ _ K.zero in_tile) ∙ ap (λ (g : Picture S). cell_of P g c) e
    where
      in_tile : below P (pos (c % P)) && below Q (pos (c / P)) ≡ true
      in_tile = and_from _ _ (lt-ltb (c % P) P (column_below P Q c h)) (lt-ltb (c / P) Q (row_below P Q c h))

  -- Then the tile stands in the first cells.
  pub tile_shown :
      (f : Picture S) (old new : List S) → P * Q ≤ length new → picture_of K P Q new ≡ f → drop (P * Q) new ≡ drop (P * Q) old
      → new ≡ tile_of K P Q f ++ drop (P * Q) old
  tile_shown f old new room e others = sym (take-append-drop (P * Q) new) ∙ ap₂ ◌++◌ tile others
    where
      tile : take (P * Q) new ≡ tile_of K P Q f
      tile =
          fill_by_all (cell_of P f) (take (P * Q) new) (P * Q) K.zero (length-take-le (P * Q) new room)
          (λ c h. get_or-take (P * Q) new c K.zero h ∙ holds_shown f new e c h)

  -- The spark ---------------------------------------------------------------------------------------------------------

  -- zero but for the spark in cell k₀
  abbrev pub sparked : ℕ → ℕ → S
  sparked k₀ c = cond (eqb c k₀) K.spark K.zero

  module _ (k₀ : ℕ) (h : k₀ < P) (some : 0 < Q) where
    start_inside : Inside (start K k₀)
    start_inside k l t = go (cases_Bool (equal k (pos k₀) && equal l (pos 0)))
      where
        go : (equal k (pos k₀) && equal l (pos 0) ≡ true) ⊎ (equal k (pos k₀) && equal l (pos 0) ≡ false) → start K k₀ k l ≡ K.zero
        go (inl e) =
            let parts = and_parts (equal k (pos k₀)) (equal l (pos 0)) e in
            absurd (both_ways (below P k && below Q l) t
            (ap₂ (λ i j. below P i && below Q j) (equal_true k (pos k₀) parts.0) (equal_true l (pos 0) parts.1)
            ∙ and_from _ _ (lt-ltb k₀ P h) (lt-ltb 0 Q some)))
        go (inr e) = cond-false _ K.spark K.zero e

    -- Cell l·P + k is cell k₀ only in column k₀ and row 0.
    same_cell : (k l : ℕ) → l * P + k ≡ k₀ → (k ≡ k₀) × (l ≡ 0)
    same_cell k zero e = (omega arith, refl)
    same_cell k (suc l) e = absurd (omega arith)

    start_at : (k l c : ℕ) → l * P + k ≡ c → sparked k₀ c ≡ start K k₀ (pos k) (pos l)
    start_at k l c is = go (cases_Bool (equal (pos k) (pos k₀) && equal (pos l) (pos 0)))
      where
        go : (equal (pos k) (pos k₀) && equal (pos l) (pos 0) ≡ true) ⊎ (equal (pos k) (pos k₀) && equal (pos l) (pos 0) ≡ false) → sparked k₀ c ≡ start K k₀ (pos k) (pos l)
        go (inl t) =
            let parts = and_parts (equal (pos k) (pos k₀)) (equal (pos l) (pos 0)) t in
            let e₁ : k ≡ k₀ = ap nat_abs (equal_true (pos k) (pos k₀) parts.0) in
            let e₂ : l ≡ 0 = ap nat_abs (equal_true (pos l) (pos 0) parts.1) in
            let e₃ = ap (λ (n : ℕ). n * P) e₂ in
            cond-true _ _ _ (eq-eqb c k₀ (omega arith)) ∙ sym (cond-true _ K.spark K.zero t)
        go (inr t) = cond-false _ _ _ (ne_eqb c k₀ (λ e. both_ways _ t (there (same_cell k l (is ∙ e))))) ∙ sym (cond-false _ K.spark K.zero t)
          where
            there : (k ≡ k₀) × (l ≡ 0) → equal (pos k) (pos k₀) && equal (pos l) (pos 0) ≡ true
            there e = ap₂ (λ (i j : ℕ). equal (pos i) (pos k₀) && equal (pos j) (pos 0)) e.0 e.1 ∙ and_from _ _ (equal_same (pos k₀)) (equal_same (pos 0))

    pub spark_shown : (cells : List S) → ((c : ℕ) → c < P * Q → get_or cells c K.zero ≡ sparked k₀ c) → picture_of K P Q cells ≡ start K k₀
    spark_shown cells holds = shows (start K k₀) cells start_inside (λ c b. holds c b ∙ start_at (c % P) (c / P) c (div-add-mod' c P))
