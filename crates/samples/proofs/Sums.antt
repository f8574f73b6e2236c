-- Sums of samples that are alike, of zeros, and of words that are added modulo 2^w.
use Rattle.std.proofs.Common.{◌≡◌, ℕ, zero, suc, ◌+◌, ◌%◌, ◌^◌, ◌<◌, sym, refl, ap, ◌∙◌, ap₂, mod-eq_of_lt, arith}
use Rattle.std.proofs.Math.Nat.{mod-add-mod}
use Rattle.std.proofs.lemmas.Nat.{pow_pos}
use Rattle.samples.specs.declared.kind.Kind.{Ghosts as Operations}
use Rattle.samples.specs.Sums.{sum_below}
use Rattle.samples.proofs.Totals.{total, total_more}

module _ {S : Type 0} (K : Operations S) where
  pub sum_same : (n : ℕ) (f g : ℕ → S) → ((i : ℕ) → i < n → f i ≡ g i) → sum_below K n f ≡ sum_below K n g
  unfolding sum_below
  sum_same zero f g h = refl
  sum_same (suc n) f g h = ap₂ K.plus (sum_same n f g (λ i b. h i (omega arith))) (h n (omega arith))

  pub sum_zero : (n : ℕ) (f : ℕ → S) → ((i : ℕ) → i < n → f i ≡ K.zero) → sum_below K n f ≡ K.zero
  unfolding sum_below
  sum_zero zero f h = refl
  sum_zero (suc n) f h = ap₂ K.plus (sum_zero n f (λ i b. h i (omega arith))) (h n (omega arith)) ∙ K.laws.neutral K.zero

  -- The number of a sum is the sum of the numbers, modulo 2^w.
  module _ (w : ℕ) (value : S → ℕ) (none : value K.zero ≡ 0) (plus : (x y : S) → value (K.plus x y) ≡ (value x + value y) % 2 ^ w) where
    pub value-sum_below : (n : ℕ) (f : ℕ → S) → value (sum_below K n f) ≡ total n (λ i. value (f i)) % 2 ^ w
    unfolding sum_below
    value-sum_below zero f = none ∙ sym (mod-eq_of_lt (pow_pos w))
    value-sum_below (suc n) f =
        plus (sum_below K n f) (f n) ∙ ap (λ k. (k + value (f n)) % 2 ^ w) (value-sum_below n f)
        ∙ mod-add-mod (total n (λ i. value (f i))) (2 ^ w) (value (f n)) ∙ ap (λ k. k % 2 ^ w) (sym (total_more n (λ i. value (f i))))
