-- Coprime numbers, by Bézout: where a·s + b·t = 1, pixels of one bin differ by a multiple of the direction.
use Rattle.std.proofs.Common.{◌≡◌, ℕ, zero, suc, ◌+◌, ◌*◌, ◌/◌, ◌%◌, ℤ, pos, negsuc, ◌+ℤ◌, ◌-ℤ◌, ◌*ℤ◌, neg_ℤ, nat_abs, sym, ap, ◌∙◌, subst, ap₂, arith}
use Rattle.std.proofs.lemmas.Int.{ints}
use Rattle.std.proofs.lemmas.Nat.{div-add-mod'}
use Rattle.mojette.specs.Directions.{gcd_within, gcd}
use Rattle.katz.proofs.Integers.{mul_comm, mul_assoc, mul_add, add_mul, neg_mul_neg, sub_mul, mul_swap}

-- g is a sum of multiples of a and b
pub record Bezout (a b g : ℤ) : Type 0 where
  pub s : ℤ
  pub t : ℤ
  pub sum : s *ℤ a +ℤ t *ℤ b ≡ g

bezout_within : (n a b : ℕ) → Bezout (pos a) (pos b) (pos (gcd_within n a b))
bezout_within zero a b = record { s = pos 1; t = pos 0; sum = omega (arith, ints) }
bezout_within (suc n) a zero = record { s = pos 1; t = pos 0; sum = omega (arith, ints) }
bezout_within (suc n) a (suc b) =
    let c = bezout_within n (suc b) (a % suc b) in
    let m = a / suc b in
    let e : m * suc b + a % suc b ≡ a = div-add-mod' a (suc b) in
    let e₁ : c.t *ℤ pos a ≡ c.t *ℤ pos (m * suc b) +ℤ c.t *ℤ pos (a % suc b) =
    ap (λ (i : ℕ). c.t *ℤ pos i) (sym e) ∙ mul_add c.t (pos (m * suc b)) (pos (a % suc b)) in
    let e₂ : (c.s -ℤ c.t *ℤ pos m) *ℤ pos (suc b) ≡ c.s *ℤ pos (suc b) -ℤ c.t *ℤ pos (m * suc b) =
    sub_mul c.s (c.t *ℤ pos m) (pos (suc b)) ∙ ap (λ (z : ℤ). c.s *ℤ pos (suc b) -ℤ z) (mul_assoc c.t (pos m) (pos (suc b))) in
    let e₃ = c.sum in
    record { s = c.t; t = c.s -ℤ c.t *ℤ pos m; sum = omega (arith, ints) }

bezout : (a b : ℕ) → Bezout (pos a) (pos b) (pos (gcd a b))
unfolding gcd
bezout a b = bezout_within (suc b) a b

-- the same where the numbers have signs, and the divisor is 1
bezout_left : (a b : ℤ) → Bezout (pos (nat_abs a)) b (pos 1) → Bezout a b (pos 1)
bezout_left (pos a) b r = r
bezout_left (negsuc a) b r =
    record { s = neg_ℤ r.s; t = r.t; sum = ap (λ (z : ℤ). z +ℤ r.t *ℤ b) (neg_mul_neg r.s (pos (suc a))) ∙ r.sum }

bezout_right : (a : ℕ) (b : ℤ) → Bezout (pos a) (pos (nat_abs b)) (pos 1) → Bezout (pos a) b (pos 1)
bezout_right a (pos b) r = r
bezout_right a (negsuc b) r =
    record { s = r.s; t = neg_ℤ r.t; sum = ap (λ (z : ℤ). r.s *ℤ pos a +ℤ z) (neg_mul_neg r.t (pos (suc b))) ∙ r.sum }

pub bezout_coprime : (a b : ℤ) → gcd (nat_abs a) (nat_abs b) ≡ 1 → Bezout a b (pos 1)
bezout_coprime a b e =
    bezout_left a b (bezout_right (nat_abs a) b (subst (λ (g : ℕ). Bezout (pos (nat_abs a)) (pos (nat_abs b)) (pos g)) e (bezout (nat_abs a) (nat_abs b))))

pub bezout_neg : (a b g : ℤ) → Bezout a b g → Bezout (neg_ℤ a) (neg_ℤ b) g
bezout_neg a b g r = record { s = neg_ℤ r.s; t = neg_ℤ r.t; sum = ap₂ ◌+ℤ◌ (neg_mul_neg r.s a) (neg_mul_neg r.t b) ∙ r.sum }

-- If x·v = y·u, then (u, v) is n·(x, y).
module _ (x y u v : ℤ) (c : Bezout x y (pos 1)) (e : x *ℤ v ≡ y *ℤ u) where
  pub times : ℤ
  times = c.s *ℤ u +ℤ c.t *ℤ v

  pub first_is : u ≡ times *ℤ x
  unfolding times
  first_is =
      let e₁ = add_mul (c.s *ℤ u) (c.t *ℤ v) x in
      let e₂ = mul_swap c.s u x in
      let e₃ = mul_assoc c.t v x in
      let e₄ = mul_comm v x in
      let e₅ = mul_assoc c.t y u in
      let e₆ = add_mul (c.s *ℤ x) (c.t *ℤ y) u in
      let e₇ : pos 1 *ℤ u ≡ u = omega (arith, ints) in
      cc c.sum

  pub second_is : v ≡ times *ℤ y
  unfolding times
  second_is =
      let e₁ = add_mul (c.s *ℤ u) (c.t *ℤ v) y in
      let e₂ = mul_swap c.t v y in
      let e₃ = mul_assoc c.s u y in
      let e₄ = mul_comm u y in
      let e₅ = mul_assoc c.s x v in
      let e₆ = add_mul (c.s *ℤ x) (c.t *ℤ y) v in
      let e₇ : pos 1 *ℤ v ≡ v = omega (arith, ints) in
      cc c.sum
