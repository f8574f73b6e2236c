-- Sums of samples: of zeros, of one sample, of differences, and over the columns and rows of a tile.
use Rattle.std.proofs.Common.{◌≡◌, ℕ, zero, suc, ◌+◌, ◌-◌, ◌*◌, ◌<◌, ◌⊎◌, ℤ, pos, negsuc, ◌+ℤ◌, ◌-ℤ◌, ◌≤ℤ◌, ◌<ℤ◌, sym, ap, ◌∙◌, ap₂, inl, inr, arith}
use Rattle.std.proofs.lemmas.Int.{ints}
use Rattle.std.proofs.lemmas.Bool.{cases_eq}
use Rattle.samples.specs.declared.kind.Kind.{Ghosts as Operations}
use Rattle.samples.specs.Sums.{sum_below}
use Rattle.samples.proofs.Sums.{sum_same, sum_zero}
use Rattle.katz.specs.Made.{minus}

module _ {S : Type 0} (K : Operations S) where
  pub zero_plus : (a : S) → K.plus K.zero a ≡ a
  zero_plus a = K.laws.comm K.zero a ∙ K.laws.neutral a

  inverse_zero : K.inverse K.zero ≡ K.zero
  inverse_zero = sym (zero_plus (K.inverse K.zero)) ∙ K.laws.cancel K.zero

  pub minus_zero : (a b : S) → b ≡ K.zero → minus K a b ≡ a
  minus_zero a b e = let e₁ = inverse_zero in let e₂ = K.laws.neutral a in cc

  pub minus_zeros : (a b : S) → a ≡ K.zero → b ≡ K.zero → minus K a b ≡ K.zero
  minus_zeros a b ea eb = minus_zero a b eb ∙ ea

  swap : (a b c d : S) → K.plus (K.plus a b) (K.plus c d) ≡ K.plus (K.plus a c) (K.plus b d)
  swap a b c d =
      let e₁ = K.laws.assoc a b (K.plus c d) in
      let e₂ = K.laws.assoc b c d in
      let e₃ = K.laws.comm b c in
      let e₄ = K.laws.assoc c b d in
      let e₅ = K.laws.assoc a c (K.plus b d) in
      cc

  -- What a sum takes, its inverse gives back.
  unique : (a b : S) → K.plus a b ≡ K.zero → b ≡ K.inverse a
  unique a b e =
      let e₁ = K.laws.comm a (K.inverse a) in
      let e₂ = K.laws.cancel a in
      let e₃ = K.laws.assoc (K.inverse a) a b in
      let e₄ = zero_plus b in
      let e₅ = K.laws.neutral (K.inverse a) in
      cc

  inverse_plus : (a b : S) → K.inverse (K.plus a b) ≡ K.plus (K.inverse a) (K.inverse b)
  inverse_plus a b =
      sym (unique (K.plus a b) (K.plus (K.inverse a) (K.inverse b))
      (swap a b (K.inverse a) (K.inverse b) ∙ ap₂ K.plus (K.laws.cancel a) (K.laws.cancel b) ∙ K.laws.neutral K.zero))

  -- The sum is the only part that may differ from zero.
  pub sum_of_one : (n : ℕ) (f : ℕ → S) (c : ℕ) → c < n → ((i : ℕ) → i < n → (i ≡ c → ⊥) → f i ≡ K.zero) → sum_below K n f ≡ f c
  unfolding sum_below
  sum_of_one zero f c b h = absurd (omega arith)
  sum_of_one (suc n) f c b h = go (cases_eq c n) (λ b. sum_of_one n f c b (λ i b' ne. h i (omega arith) ne))
    where
      go : (c ≡ n) ⊎ (c ≡ n → ⊥) → (c < n → sum_below K n f ≡ f c) → K.plus (sum_below K n f) (f n) ≡ f c
      go (inl e) rest =
          let e₁ = sum_zero K n f (λ i b. h i (omega arith) (omega arith)) in
          let e₂ = zero_plus (f c) in
          cc
      go (inr ne) rest =
          let e₁ = rest (omega arith) in
          let e₂ = h n (omega arith) (omega arith) in
          let e₃ = K.laws.neutral (f c) in
          cc

  pub sum_minus : (n : ℕ) (f g : ℕ → S) → sum_below K n (λ i. minus K (f i) (g i)) ≡ minus K (sum_below K n f) (sum_below K n g)
  unfolding sum_below
  sum_minus zero f g = sym (K.laws.cancel K.zero)
  sum_minus (suc n) f g =
      let e₁ = sum_minus n f g in
      let e₂ = swap (sum_below K n f) (K.inverse (sum_below K n g)) (f n) (K.inverse (g n)) in
      let e₃ = inverse_plus (sum_below K n g) (g n) in
      cc

  pub sum_append : (m n : ℕ) (f : ℕ → S) → sum_below K (m + n) f ≡ K.plus (sum_below K m f) (sum_below K n (λ i. f (m + i)))
  unfolding sum_below
  sum_append m zero f = let e : m + 0 ≡ m = omega arith in ap (λ (j : ℕ). sum_below K j f) e ∙ sym (K.laws.neutral (sum_below K m f))
  sum_append m (suc n) f =
      let e : m + suc n ≡ suc (m + n) = omega arith in
      ap (λ (j : ℕ). sum_below K j f) e ∙ ap (λ (s : S). K.plus s (f (m + n))) (sum_append m n f)
      ∙ K.laws.assoc (sum_below K m f) (sum_below K n (λ i. f (m + i))) (f (m + n))

  -- row by row
  pub sum_rows : (P Q : ℕ) (f : ℕ → S) → sum_below K (P * Q) f ≡ sum_below K Q (λ l. sum_below K P (λ k. f (l * P + k)))
  unfolding sum_below
  sum_rows P zero f = let e : P * 0 ≡ 0 = omega arith in ap (λ (j : ℕ). sum_below K j f) e
  sum_rows P (suc Q) f =
      let e : P * suc Q ≡ P * Q + P = omega arith in
      ap (λ (j : ℕ). sum_below K j f) e ∙ sum_append (P * Q) P f
      ∙ ap₂ K.plus (sum_rows P Q f) (sum_same K P (λ k. f (P * Q + k)) (λ k. f (Q * P + k)) (λ k b. ap f (omega arith)))

  -- What ends before the last m places has the same sum m places later.
  shift_right : (m r : ℕ) (f : ℤ → S) → ((k : ℤ) → k <ℤ pos 0 → f k ≡ K.zero) → ((k : ℤ) → pos r ≤ℤ k → f k ≡ K.zero)
      → sum_below K (m + r) (λ i. f (pos i -ℤ pos m)) ≡ sum_below K (m + r) (λ i. f (pos i))
  shift_right m r f before after =
      sum_append m r (λ i. f (pos i -ℤ pos m))
      ∙ ap₂ K.plus (sum_zero K m (λ i. f (pos i -ℤ pos m)) (λ i b. before (pos i -ℤ pos m) (omega (arith, ints))))
      (sum_same K r (λ i. f (pos (m + i) -ℤ pos m)) (λ i. f (pos i)) (λ i b. ap f (omega (arith, ints))))
      ∙ zero_plus (sum_below K r (λ i. f (pos i)))
      ∙ sym (K.laws.neutral (sum_below K r (λ i. f (pos i))))
      ∙ ap (K.plus (sum_below K r (λ i. f (pos i)))) (sym (sum_zero K m (λ i. f (pos (r + i))) (λ i b. after (pos (r + i)) (omega (arith, ints)))))
      ∙ sym (sum_append r m (λ i. f (pos i)))
      ∙ ap (λ (n : ℕ). sum_below K n (λ i. f (pos i))) (omega arith)

  -- A sum over 0 to n - 1 stays the same when what is not zero moves by p, and stays inside.
  pub sum_shift : (n : ℕ) (p : ℤ) (f : ℤ → S) → ((k : ℤ) → k <ℤ pos 0 → f k ≡ K.zero) → ((k : ℤ) → pos n ≤ℤ k → f k ≡ K.zero)
      → ((k : ℤ) → (k +ℤ p) <ℤ pos 0 → f k ≡ K.zero) → ((k : ℤ) → pos n ≤ℤ (k +ℤ p) → f k ≡ K.zero)
      → pos 0 ≤ℤ (pos n +ℤ p) → p ≤ℤ pos n
      → sum_below K n (λ i. f (pos i -ℤ p)) ≡ sum_below K n (λ i. f (pos i))
  sum_shift n (pos m) f before after before' after' low high =
      let e : n ≡ m + (n - m) = omega (arith, ints) in
      ap (λ (j : ℕ). sum_below K j (λ i. f (pos i -ℤ pos m))) e
      ∙ shift_right m (n - m) f before (λ k h. after' k (omega (arith, ints)))
      ∙ ap (λ (j : ℕ). sum_below K j (λ i. f (pos i))) (sym e)
  sum_shift n (negsuc m) f before after before' after' low high =
      let e : n ≡ suc m + (n - suc m) = omega (arith, ints) in
      let g : ℤ → S = λ k. f (k +ℤ pos (suc m)) in
      sum_same K n (λ i. f (pos i -ℤ negsuc m)) (λ i. g (pos i)) (λ i b. ap f (omega (arith, ints)))
      ∙ ap (λ (j : ℕ). sum_below K j (λ i. g (pos i))) e
      ∙ sym (shift_right (suc m) (n - suc m) g (λ k h. before' (k +ℤ pos (suc m)) (omega (arith, ints))) (λ k h. after (k +ℤ pos (suc m)) (omega (arith, ints))))
      ∙ ap (λ (j : ℕ). sum_below K j (λ i. g (pos i -ℤ pos (suc m)))) (sym e)
      ∙ sum_same K n (λ i. g (pos i -ℤ pos (suc m))) (λ i. f (pos i)) (λ i b. ap f (omega (arith, ints)))
