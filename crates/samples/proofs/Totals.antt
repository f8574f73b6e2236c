-- Sums of whole numbers, over the indexes below a bound.
use Rattle.std.proofs.Common.{◌≡◌, ℕ, zero, suc, ◌+◌, ◌*◌, ◌<◌, ◌≤◌, sym, refl, ap, ◌∙◌, ⊎_elim, add-zero, add-suc, add-one, mul-zero, mul-suc, mul_comm, arith}
use Rattle.std.specs.List.{range_with_len, sum_by}
use Rattle.std.proofs.lemmas.List.{map-id}
use Rattle.std.proofs.lemmas.List.FromFn.{sum_by-map-range_with_len_more}
use Rattle.std.proofs.lemmas.Bool.{cases_lt}

-- f 0 + … + f (n - 1)
abbrev pub total : ℕ → (ℕ → ℕ) → ℕ
total n f = sum_by f (range_with_len 0 n)

pub total_more : (n : ℕ) (f : ℕ → ℕ) → total (suc n) f ≡ total n f + f n
total_more n f =
    ap (λ k. total k f) (sym (add-one n)) ∙ ap (sum_by f) (sym (map-id (range_with_len 0 (n + 1))))
    ∙ sum_by-map-range_with_len_more f (λ x. x) 0 n n (omega arith) ∙ ap (λ l. sum_by f l + f n) (map-id (range_with_len 0 n))

pub total_same : (n : ℕ) (f g : ℕ → ℕ) → ((i : ℕ) → i < n → f i ≡ g i) → total n f ≡ total n g
total_same zero f g same = refl
total_same (suc n) f g same = omega (arith, total_more n f, total_more n g, total_same n f g (λ i l. same i (omega arith)), same n (omega arith))

pub total_le : (n : ℕ) (f : ℕ → ℕ) (most : ℕ) → ((i : ℕ) → i < n → f i ≤ most) → total n f ≤ n * most
total_le zero f most each = omega arith
total_le (suc n) f most each = omega (arith, total_more n f, total_le n f most (λ i l. each i (omega arith)), each n (omega arith))

-- The terms from m on are a sum of their own.
total_plus : (m n : ℕ) (f : ℕ → ℕ) → total (m + n) f ≡ total m f + total n (λ i. f (m + i))
total_plus m zero f = ap (λ k. total k f) (add-zero m) ∙ sym (add-zero (total m f))
total_plus m (suc n) f =
    ap (λ k. total k f) (add-suc m n) ∙ omega (arith, total_more (m + n) f, total_plus m n f, total_more n (λ i. f (m + i)))

-- the cells of a tile, row by row
pub total_rows : (P Q : ℕ) (f : ℕ → ℕ) → total (P * Q) f ≡ total Q (λ l. total P (λ k. f (l * P + k)))
total_rows P zero f = ap (λ k. total k f) (mul-zero P)
total_rows P (suc Q) f =
    let last : total P (λ k. f (P * Q + k)) ≡ total P (λ k. f (Q * P + k)) = ap (λ n. total P (λ k. f (n + k))) (mul_comm P Q) in
    ap (λ k. total k f) (mul-suc P Q) ∙ omega (arith, total_plus (P * Q) P f, total_rows P Q f, last, total_more Q (λ l. total P (λ k. f (l * P + k))))

pub total_some : (n : ℕ) (f : ℕ → ℕ) → 0 < total n f → (i : ℕ) × (i < n) × (0 < f i)
total_some zero f some = absurd (omega arith)
total_some (suc n) f some = ⊎_elim
    (λ (here : 0 < f n). (n, omega arith, here))
    (λ (none : f n ≤ 0). let before = total_some n f (omega (arith, total_more n f)) in (before.0, omega (arith, before.1), before.2))
    (cases_lt 0 (f n))

-- Where one term at most is not 0, the sum is no more than a term is.
pub total_alone : (n : ℕ) (f : ℕ → ℕ) (most : ℕ) → ((i : ℕ) → i < n → f i ≤ most) → ((i j : ℕ) → i < n → j < n → 0 < f i → 0 < f j → i ≡ j) → total n f ≤ most
total_alone zero f most each alone = omega arith
total_alone (suc n) f most each alone = ⊎_elim
    (λ (here : 0 < f n). ⊎_elim
    (λ (before : 0 < total n f). let other = total_some n f before in absurd (omega (arith, other.1, alone other.0 n (omega (arith, other.1)) (omega arith) other.2 here)))
    (λ (none : total n f ≤ 0). omega (arith, total_more n f, each n (omega arith)))
    (cases_lt 0 (total n f)))
    (λ (none : f n ≤ 0). omega (arith, total_more n f, total_alone n f most (λ i l. each i (omega arith)) (λ i j l m. alone i j (omega arith) (omega arith))))
    (cases_lt 0 (f n))
