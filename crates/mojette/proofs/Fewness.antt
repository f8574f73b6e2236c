-- A bin has few pixels: one of each row at most, or those of one row.
use Rattle.std.proofs.Common.{◌≡◌, ℕ, suc, ◌+◌, ◌*◌, ◌/◌, ◌%◌, ◌<◌, ◌≤◌, Bool, true, false, cond, ◌||◌, not, leb, eqb, ◌⊎◌, ℤ, pos, negsuc, ◌+ℤ◌, ◌*ℤ◌, neg_ℤ, nat_abs, sym, refl, ap, ◌∙◌, subst, inl, inr, ⊎_elim, arith}
use lib.Signed.{le_z}
use Rattle.std.proofs.lemmas.Nat.{mul-le, mod-mul-add, div-mul-add}
use Rattle.std.proofs.lemmas.Int.{ints}
use Rattle.std.proofs.lemmas.Bool.{and_parts, cond-false, cases_Bool, cases_lt, cases_order}
use Rattle.samples.proofs.Totals.{total, total_le, total_rows, total_some, total_alone}
use Rattle.mojette.specs.declared.direction.Direction.{Direction}
use Rattle.mojette.specs.Bins.{raw}
use Rattle.mojette.specs.Bounds.{most_side, most_step}
use Rattle.mojette.specs.Directions.{equal, gcd, lawful, level_right}
use Rattle.mojette.proofs.Equal.{equal_true, equal_same}

natural : (z : ℤ) → le_z (pos 0) z ≡ true → pos (nat_abs z) ≡ z
natural (pos n) h = refl
natural (negsuc n) h = let z : ◌≡◌ {A = ℕ} 0 1 = cc in absurd (omega arith)

-- pixels in one row with the same raw number
same_row : (k k' q : ℕ) (z : ℤ) → neg_ℤ (pos k *ℤ pos q) +ℤ z ≡ neg_ℤ (pos k' *ℤ pos q) +ℤ z → k * q ≡ k' * q
same_row k k' q z e = omega (arith, ints)

same_column : (k k' q : ℕ) → 0 < q → k * q ≡ k' * q → k ≡ k'
same_column k k' q some e = ⊎_elim
    (λ (h : k ≡ k'). h)
    (λ h. ⊎_elim
    (λ (l : k < k'). absurd (omega (arith, mul-le (suc k) q k' q l (omega arith))))
    (λ (l : k' < k). absurd (omega (arith, mul-le (suc k') q k q l (omega arith))))
    h)
    (cases_order k k')

-- pixels along a level direction with the same raw number
same_level : (k k' l l' : ℕ) → neg_ℤ (pos k *ℤ pos 0) +ℤ (pos l *ℤ pos 1) ≡ neg_ℤ (pos k' *ℤ pos 0) +ℤ (pos l' *ℤ pos 1) → l ≡ l'
same_level k k' l l' e = omega (arith, ints)

-- Numbers of at most so much at the pixels of a tile, added up along a line of pixels.
module _ (P Q : ℕ) (d : Direction) (law : lawful d ≡ true) (r : ℤ) (value : ℕ → ℕ) (most : ℕ) (each : (c : ℕ) → c < P * Q → value c ≤ most) where
  abbrev pub on_line : ℕ → ℕ
  on_line c = cond (equal (raw d (c % P) (c / P)) r) (value c) 0

  on_line_le : (c : ℕ) → c < P * Q → on_line c ≤ most
  on_line_le c l = go (equal (raw d (c % P) (c / P)) r)
    where
      go : (t : Bool) → cond t (value c) 0 ≤ most
      go true = each c l
      go false = omega arith

  cell : (k l : ℕ) → k < P → l < Q → l * P + k < P * Q
  cell k l h h' = omega (arith, mul-le (suc l) P Q P h' (omega arith))

  on_it : (k l : ℕ) → k < P → 0 < on_line (l * P + k) → raw d k l ≡ r
  on_it k l h some = go (cases_Bool (equal (raw d ((l * P + k) % P) ((l * P + k) / P)) r))
    where
      go : (equal (raw d ((l * P + k) % P) ((l * P + k) / P)) r ≡ true) ⊎ (equal (raw d ((l * P + k) % P) ((l * P + k) / P)) r ≡ false) → raw d k l ≡ r
      go (inl t) = (λ i. raw d (sym (mod-mul-add l P k h) i) (sym (div-mul-add l P k h) i)) ∙ equal_true _ r t
      go (inr t) = absurd (omega (arith, some, cond-false _ (value (l * P + k)) 0 t))

  parts : (pos (nat_abs d.q) ≡ d.q) × (level_right d ≡ true)
  parts =
      let p = and_parts (leb (nat_abs d.p) most_step) _ law in
      let natural_q = and_parts (le_z (pos 0) d.q) _ p.1 in
      let steps = and_parts (leb (nat_abs d.q) most_step) _ natural_q.1 in
      (natural d.q natural_q.0, (and_parts (eqb (gcd (nat_abs d.p) (nat_abs d.q)) 1) _ steps.1).1)

  -- one pixel of a row, where the direction goes down
  slanted_row : 0 < nat_abs d.q → (l : ℕ) → l < Q → total P (λ k. on_line (l * P + k)) ≤ most
  slanted_row down l h = total_alone P (λ k. on_line (l * P + k)) most
      (λ k m. on_line_le (l * P + k) (cell k l m h))
      (λ k k' m m' s s'.
      let z = pos l *ℤ d.p in
      let same : neg_ℤ (pos k *ℤ d.q) +ℤ z ≡ neg_ℤ (pos k' *ℤ d.q) +ℤ z = on_it k l m s ∙ sym (on_it k' l m' s') in
      same_column k k' (nat_abs d.q) down
      (same_row k k' (nat_abs d.q) z (subst (λ n. neg_ℤ (pos k *ℤ n) +ℤ z ≡ neg_ℤ (pos k' *ℤ n) +ℤ z) (sym parts.0) same)))

  -- the pixels of one row, where it goes to the right
  level_rows : nat_abs d.q ≤ 0 → total Q (λ l. total P (λ k. on_line (l * P + k))) ≤ P * most
  level_rows level = total_alone Q (λ l. total P (λ k. on_line (l * P + k))) (P * most)
      (λ l h. total_le P (λ k. on_line (l * P + k)) most (λ k m. on_line_le (l * P + k) (cell k l m h)))
      (λ l l' h h' s s'.
      let at = total_some P (λ k. on_line (l * P + k)) s in
      let at' = total_some P (λ k. on_line (l' * P + k)) s' in
      let flat : d.q ≡ pos 0 = sym parts.0 ∙ ap pos (omega (arith, level)) in
      let right : d.p ≡ pos 1 = equal_true d.p (pos 1) (sym (ap (λ t. not t || equal d.p (pos 1)) (ap (λ z. equal z (pos 0)) flat ∙ equal_same (pos 0))) ∙ parts.1) in
      let same : raw d at.0 l ≡ raw d at'.0 l' = on_it at.0 l at.1 at.2 ∙ sym (on_it at'.0 l' at'.1 at'.2) in
      let e : (k m : ℕ) → raw d k m ≡ neg_ℤ (pos k *ℤ pos 0) +ℤ (pos m *ℤ pos 1) = λ k m. λ i. neg_ℤ (pos k *ℤ flat i) +ℤ (pos m *ℤ right i) in
      same_level at.0 at'.0 l l' (sym (e at.0 l) ∙ same ∙ e at'.0 l'))

  pub line_most : P ≤ most_side → Q ≤ most_side → total (P * Q) on_line ≤ most_side * most
  line_most columns rows = ⊎_elim
      (λ (down : 0 < nat_abs d.q).
      omega (arith, total_rows P Q on_line, total_le Q (λ l. total P (λ k. on_line (l * P + k))) most (slanted_row down), mul-le Q most most_side most rows (omega arith)))
      (λ (level : nat_abs d.q ≤ 0).
      omega (arith, total_rows P Q on_line, level_rows level, mul-le P most most_side most columns (omega arith)))
      (cases_lt 0 (nat_abs d.q))
