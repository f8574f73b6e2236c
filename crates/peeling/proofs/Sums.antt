-- Sums in a group over the indexes below a bound.
use Rattle.std.proofs.Common.{◌≡◌, ℕ, zero, suc, ◌<◌, sym, ap, ◌∙◌, ⊎_elim, arith}
use Rattle.std.proofs.lemmas.Bool.{cases_eq}
use Rattle.samples.specs.declared.kind.Kind.{Ghosts as Operations}
use Rattle.samples.specs.Sums.{sum_below}
use Rattle.samples.proofs.Sums.{sum_same}

module _ {A : Type 0} (K : Operations A) where
  -- what stands on both sides on the right is taken off
  pub drop_right : (x y z : A) → K.plus x z ≡ K.plus y z → x ≡ y
  drop_right x y z e = sym (back x) ∙ ap (λ a. K.plus a (K.inverse z)) e ∙ back y
    where
      back : (a : A) → K.plus (K.plus a z) (K.inverse z) ≡ a
      back a = K.laws.assoc a z (K.inverse z) ∙ ap (K.plus a) (K.laws.cancel z) ∙ K.laws.neutral a

  -- (x - v) + (y + v) = x + y
  pub moved : (x y v : A) → K.plus (K.plus x (K.inverse v)) (K.plus y v) ≡ K.plus x y
  moved x y v =
      K.laws.assoc x (K.inverse v) (K.plus y v)
      ∙ ap (K.plus x)
      (K.laws.comm (K.inverse v) (K.plus y v)
      ∙ K.laws.assoc y v (K.inverse v)
      ∙ ap (K.plus y) (K.laws.cancel v)
      ∙ K.laws.neutral y)

  -- (x + y) + z = (x + z) + y
  pub swapped : (x y z : A) → K.plus (K.plus x y) z ≡ K.plus (K.plus x z) y
  swapped x y z = K.laws.assoc x y z ∙ ap (K.plus x) (K.laws.comm y z) ∙ sym (K.laws.assoc x z y)

  -- a summand that was zero becomes v
  pub sum_more : (n : ℕ) (f g : ℕ → A) (c : ℕ) (v : A) → c < n → ((i : ℕ) → i < n → (i ≡ c → ⊥) → g i ≡ f i) → f c ≡ K.zero → g c ≡ v → sum_below K n g ≡ K.plus (sum_below K n f) v
  unfolding sum_below
  sum_more zero f g c v l same was now = absurd (omega arith)
  sum_more (suc n) f g c v l same was now = ⊎_elim
      (λ (e : c ≡ n).
      let rest = sum_same K n g f (λ i k. same i (omega arith) (omega arith)) in
      let f-here : f n ≡ K.zero = ap f (sym e) ∙ was in
      let g-here : g n ≡ v = ap g (sym e) ∙ now in
      ap (λ a. K.plus a (g n)) rest ∙ ap (K.plus (sum_below K n f)) g-here
      ∙ ap (λ a. K.plus a v) (sym (K.laws.neutral (sum_below K n f)) ∙ ap (K.plus (sum_below K n f)) (sym f-here)))
      (λ (d : c ≡ n → ⊥).
      let rest = sum_more n f g c v (omega arith) (λ i k. same i (omega arith)) was now in
      let here = same n (omega arith) (omega arith) in
      ap (λ a. K.plus a (g n)) rest ∙ ap (K.plus (K.plus (sum_below K n f) v)) here ∙ swapped (sum_below K n f) v (f n))
      (cases_eq c n)
