-- How many pixels lie in a bin, counted row by row, and how the bins one step on follow from it.
use Rattle.std.proofs.Common.{◌≡◌, ℕ, zero, suc, ◌+◌, ◌-◌, ◌*◌, ◌<◌, ◌≤◌, Bool, true, eqb, ◌⊎◌, sym, refl, ap, ◌∙◌, inl, inr, ⊎_elim, add-zero, add-suc, mul_comm, mul-zero, mul-suc, arith}
use Rattle.std.proofs.lemmas.Nat.{mul-le}
use Rattle.std.proofs.lemmas.Bool.{eq-eqb, ne_eqb, eqb-true, cases_eq, cases_lt, cases_order}
use Rattle.peeling.specs.Counting.{tally, number, least, one_if}
use Rattle.peeling.proofs.Counts.{tally_same, tally_zero, tally_front, tally_change, tally_le, number_same, number_zero, number_one, number_all, least_some, least_passes}
use Rattle.walk.specs.declared.columns.Columns.{Columns}
use Rattle.walk.specs.Passing.{columns_at, Coming}

-- Sums over parts, and backwards ----------------------------------------------------------------------------------

tally_plus : (m n : ℕ) (f : ℕ → ℕ) → tally (m + n) f ≡ tally m f + tally n (λ i. f (m + i))
unfolding tally
tally_plus m zero f = ap (λ k. tally k f) (add-zero m) ∙ sym (add-zero (tally m f))
tally_plus m (suc n) f = ap (λ k. tally k f) (add-suc m n) ∙ (let rest = tally_plus m n f in omega arith)

pub tally_back : (n : ℕ) (f : ℕ → ℕ) → tally n f ≡ tally n (λ i. f (n - 1 - i))
unfolding tally
tally_back zero f = refl
tally_back (suc n) f =
    let e : suc n - 1 - 0 ≡ n = omega arith in
    let first = ap f e in
    let later = tally_same n (λ i. f (n - 1 - i)) (λ i. f (suc n - 1 - suc i)) (λ i l. ap f (step i)) in
    let front = tally_front n (λ i. f (suc n - 1 - i)) in
    let rest = tally_back n f in
    omega arith
  where
    step : (i : ℕ) → n - 1 - i ≡ suc n - 1 - suc i
    step i = omega arith

-- the cells of a tile, row by row
pub number_rows : (P Q : ℕ) (p : ℕ → Bool) → number (P * Q) p ≡ tally Q (λ y. number P (λ x. p (y * P + x)))
unfolding number tally
number_rows P zero p = ap (λ k. number k p) (mul-zero P)
number_rows P (suc Q) p =
    ap (λ k. number k p) (mul-suc P Q)
    ∙ tally_plus (P * Q) P (λ i. one_if (p i))
    ∙ (
    let rest : tally (P * Q) (λ i. one_if (p i)) ≡ tally Q (λ y. number P (λ x. p (y * P + x))) = number_rows P Q p in
    let last : tally P (λ x. one_if (p (P * Q + x))) ≡ tally P (λ x. one_if (p (Q * P + x))) = ap (λ k. tally P (λ x. one_if (p (k + x)))) (mul_comm P Q) in
    omega arith)

ones : (n : ℕ) → tally n (λ i. 1) ≡ n
unfolding number
ones n = number_all n (λ i. true) (λ i h. refl)

-- Row by row --------------------------------------------------------------------------------------------------------

eqb_plus : (m n s : ℕ) → eqb (m + s) (n + s) ≡ eqb m n
eqb_plus m n s = ⊎_elim
    (λ (e : m ≡ n). eq-eqb (m + s) (n + s) (omega arith) ∙ sym (eq-eqb m n e))
    (λ (e : m ≡ n → ⊥). ne_eqb (m + s) (n + s) (omega arith) ∙ sym (ne_eqb m n e))
    (cases_eq m n)

module _ (P Q q s : ℕ) where
  -- the pixels of row y in bin b
  abbrev in_row : ℕ → ℕ → ℕ
  in_row b y = number P (λ x. eqb (x * q + y * s) b)

  -- the pixels of all rows in bin b
  abbrev pub in_rows : ℕ → ℕ
  in_rows b = tally Q (in_row b)

  row_is : (y k b : ℕ) → y * s ≡ k → in_row b y ≡ columns_at P q k b
  row_is y k b e = number_same P _ _ (λ x l. ap (λ n. eqb n b) (turn x))
    where
      turn : (x : ℕ) → x * q + y * s ≡ k + x * q
      turn x = omega arith

  first_row : (b : ℕ) → in_row b 0 ≡ columns_at P q 0 b
  first_row b = row_is 0 0 b (omega arith)

  row_up : (b y : ℕ) → in_row (b + s) (suc y) ≡ in_row b y
  row_up b y = number_same P _ _ (λ x l. ap (λ n. eqb n (b + s)) (up x) ∙ eqb_plus (x * q + y * s) b s)
    where
      up : (x : ℕ) → x * q + suc y * s ≡ x * q + y * s + s
      up x = omega arith

  -- Bin b + s has the pixels of bin b one row on: the columns that begin there are new, and those that end there are gone.
  pub one_row_on : (b : ℕ) → in_rows (b + s) + columns_at P q (Q * s) (b + s) ≡ in_rows b + columns_at P q 0 (b + s)
  unfolding tally
  one_row_on b =
      let both : in_rows (b + s) + in_row (b + s) Q ≡ in_row (b + s) 0 + tally Q (λ y. in_row (b + s) (suc y)) = tally_front Q (in_row (b + s)) in
      let later = tally_same Q (λ y. in_row (b + s) (suc y)) (in_row b) (λ y l. row_up b y) in
      let last = row_is Q (Q * s) (b + s) refl in
      let first = first_row (b + s) in
      omega arith

  -- A bin below s has pixels of the first row only.
  pub only_first_row : (b : ℕ) → b < s → 1 ≤ Q → in_rows b + columns_at P q (Q * s) b ≡ columns_at P q 0 b
  only_first_row b l some = go Q some
    where
      none : (y : ℕ) → 1 ≤ y → in_row b y ≡ 0
      none y h = number_zero P _ (λ x k. ne_eqb (x * q + y * s) b (above x))
        where
          above : (x : ℕ) → x * q + y * s ≡ b → ⊥
          above x e = omega (arith, mul-le 1 s y s h (omega arith))

      go : (R : ℕ) → 1 ≤ R → tally R (in_row b) + columns_at P q (R * s) b ≡ columns_at P q 0 b
      go zero h = absurd (omega arith)
      go (suc R) h =
          let front = tally_front R (in_row b) in
          let later = tally_zero R (λ y. in_row b (suc y)) (λ y k. none (suc y) (omega arith)) in
          let last = sym (row_is (suc R) (suc R * s) b refl) ∙ none (suc R) (omega arith) in
          let first = first_row b in
          omega arith

-- The columns at a bin --------------------------------------------------------------------------------------------

module _ (P q first b : ℕ) (some : 1 ≤ q) where
  apart : (x y : ℕ) → x < y → first + x * q < first + y * q
  apart x y l = let m = mul-le (suc x) q y q l (omega arith) in omega arith

  one_column : (j : ℕ) → j < P → first + j * q ≡ b → columns_at P q first b ≡ 1
  one_column j l e = number_one P _ j l (eq-eqb (first + j * q) b e) (λ x k h. same x (eqb-true (first + x * q) b h))
    where
      same : (x : ℕ) → first + x * q ≡ b → x ≡ j
      same x f = ⊎_elim (λ (h : x ≡ j). h) (λ h. ⊎_elim
          (λ (k : x < j). absurd (omega (arith, apart x j k)))
          (λ (k : j < x). absurd (omega (arith, apart j x k))) h) (cases_order x j)

  no_column : ((x : ℕ) → x < P → first + x * q ≡ b → ⊥) → columns_at P q first b ≡ 0
  no_column none = number_zero P _ (λ x l. ne_eqb (first + x * q) b (none x l))

  pub few_columns : columns_at P q first b ≤ 1
  few_columns = go (cases_lt 1 (columns_at P q first b))
    where
      go : (1 < columns_at P q first b) ⊎ (columns_at P q first b ≤ 1) → columns_at P q first b ≤ 1
      go (inr h) = h
      go (inl h) =
          let at = least P (λ x. eqb (first + x * q) b) in
          let l = least_some P (λ x. eqb (first + x * q) b) (omega arith) in
          let e = one_column at l (eqb-true _ b (least_passes P (λ x. eqb (first + x * q) b) l)) in
          omega arith

-- A turn at bin b takes the columns of x to those of y.
module _ (x y : Columns) (P q first b : ℕ) (c : Coming P q first b x) (end : y.end ≡ x.end) (step : y.q ≡ x.q) where
  some : 1 ≤ q
  some = omega (arith, c.step, x.apart)

  pub column_here : x.next ≡ b → b < x.end → y.next ≡ x.next + x.q → (1 ≡ columns_at P q first b) × Coming P q first (b + 1) y
  column_here e l on = (
    sym (one_column P q first b some c.j inside (omega (arith, c.next))),
    record {
      step = step ∙ c.step;
      end = end ∙ c.end;
      j = c.j + 1;
      next = omega (arith, c.next, c.step);
      past = λ k h. omega (arith, c.next, mul-le k q c.j q (omega arith) (omega arith));
      ahead = λ k h h'. omega (arith, c.next, apart P q first b some c.j k (omega arith));
    },
  )
    where
      inside : c.j < P
      inside = ⊎_elim (λ (k : c.j < P). k) (λ (k : P ≤ c.j). absurd (omega (arith, c.next, c.end, mul-le P q c.j q k (omega arith)))) (cases_lt c.j P)

  pub none_here : (x.next ≡ b → ⊥) ⊎ (x.end ≤ b) → y.next ≡ x.next → (0 ≡ columns_at P q first b) × Coming P q first (b + 1) y
  none_here miss same = (
    sym (no_column P q first b some (λ k l e. ⊎_elim (λ (h : k < c.j). omega (arith, c.past k h)) (λ (h : c.j ≤ k). omega (arith, beyond k l h)) (cases_lt k c.j))),
    record {
      step = step ∙ c.step;
      end = end ∙ c.end;
      j = c.j;
      next = same ∙ c.next;
      past = λ k h. omega (arith, c.past k h);
      ahead = λ k h h'. omega (arith, beyond k h h');
    },
  )
    where
      beyond : (k : ℕ) → k < P → c.j ≤ k → b < first + k * q
      beyond k l h = ⊎_elim
          (λ (ne : x.next ≡ b → ⊥). omega (arith, c.next, c.ahead c.j (omega arith) (omega arith), mul-le c.j q k q h (omega arith)))
          (λ (far : x.end ≤ b). absurd (omega (arith, c.end, c.ahead k l h, apart P q first b some k P l)))
          miss

module _ (P Q q s : ℕ) where
  -- a bin has at most one pixel of each row
  pub rows_most : 1 ≤ q → (b : ℕ) → in_rows P Q q s b ≤ Q
  rows_most some b = tally_le Q (in_row P Q q s b) (λ y l. let e = row_is P Q q s y (y * s) b refl in let f = few_columns P q (y * s) b some in omega arith)

  -- Directions along an edge --------------------------------------------------------------------------------------

  -- straight down: each bin is a column
  pub down_the_rows : q ≡ 1 → s ≡ 0 → (b : ℕ) → b < P → in_rows P Q q s b ≡ Q
  down_the_rows e f b l =
      tally_same Q (in_row P Q q s b) (λ y. 1) (λ y h. row_is P Q q s y 0 b (flat y) ∙ one_column P q 0 b (omega arith) b l (omega (arith, ap (λ n. b * n) e)))
      ∙ ones Q
    where
      flat : (y : ℕ) → y * s ≡ 0
      flat y = omega (arith, ap (λ n. y * n) f)

  -- straight across: each bin is a row
  pub across_the_columns : q ≡ 0 → s ≡ 1 → (b : ℕ) → b < Q → in_rows P Q q s b ≡ P
  across_the_columns e f b l =
      let change = tally_change Q (in_row P Q q s b) (λ y. 0) b l (λ y h ne. number_zero P _ (λ x k. ne_eqb (x * q + y * s) b (λ h. ne (omega (arith, at x y))))) in
      let zeros = tally_zero Q (λ y. 0) (λ y h. refl) in
      let all = number_all P (λ x. eqb (x * q + b * s) b) (λ x h. eq-eqb (x * q + b * s) b (at x b)) in
      omega arith
    where
      at : (x y : ℕ) → x * q + y * s ≡ y
      at x y = omega (arith, ap (λ n. x * n) e, ap (λ n. y * n) f)
