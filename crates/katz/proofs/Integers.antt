-- The laws of products of integers.
use Rattle.std.proofs.Common.{◌≡◌, ℕ, suc, ◌*◌, ℤ, pos, negsuc, ◌+ℤ◌, ◌-ℤ◌, ◌*ℤ◌, neg_ℤ, ◌≤ℤ◌, ◌<ℤ◌, sym, ap, ◌∙◌, ap₂, mul-le-mul_right, arith}
use borrow.Author.Differences.{up, down, product_is, sum_is_lem, neg_is, same_in, lt_out, le_out, below_in, at_most_in}
use lib.IntN.{neg_ℤ-neg_ℤ}
use Rattle.std.proofs.lemmas.Int.{ints, by_lt_z}

pub mul_comm : (a b : ℤ) → a *ℤ b ≡ b *ℤ a
mul_comm a b = omega (arith, ints)

pub mul_assoc : (a b c : ℤ) → (a *ℤ b) *ℤ c ≡ a *ℤ (b *ℤ c)
mul_assoc a b c =
    same_in ((a *ℤ b) *ℤ c) (a *ℤ (b *ℤ c))
    (simp ((product_is (a *ℤ b) c).0, (product_is (a *ℤ b) c).1, (product_is a (b *ℤ c)).0, (product_is a (b *ℤ c)).1, (product_is a b).0, (product_is a b).1, (product_is b c).0, (product_is b c).1)
    (omega arith))

pub add_mul : (a b c : ℤ) → (a +ℤ b) *ℤ c ≡ a *ℤ c +ℤ b *ℤ c
add_mul a b c =
    omega (arith, ints, ap (λ (n : ℕ). n * up c) (sum_is_lem a b), ap (λ (n : ℕ). n * down c) (sum_is_lem a b))

pub mul_add : (a b c : ℤ) → a *ℤ (b +ℤ c) ≡ a *ℤ b +ℤ a *ℤ c
mul_add a b c = mul_comm a (b +ℤ c) ∙ add_mul b c a ∙ ap₂ ◌+ℤ◌ (mul_comm b a) (mul_comm c a)

pub neg_mul : (a b : ℤ) → neg_ℤ a *ℤ b ≡ neg_ℤ (a *ℤ b)
neg_mul a b =
    same_in (neg_ℤ a *ℤ b) (neg_ℤ (a *ℤ b))
    (simp ((product_is (neg_ℤ a) b).0, (product_is (neg_ℤ a) b).1, (neg_is a).0, (neg_is a).1, (neg_is (a *ℤ b)).0, (neg_is (a *ℤ b)).1, (product_is a b).0, (product_is a b).1)
    (omega arith))

pub neg_mul_neg : (a b : ℤ) → neg_ℤ a *ℤ neg_ℤ b ≡ a *ℤ b
neg_mul_neg a b = neg_mul a (neg_ℤ b) ∙ ap neg_ℤ (mul_comm a (neg_ℤ b) ∙ neg_mul b a) ∙ neg_ℤ-neg_ℤ (b *ℤ a) ∙ mul_comm b a

pub sub_mul : (a b c : ℤ) → (a -ℤ b) *ℤ c ≡ a *ℤ c -ℤ b *ℤ c
sub_mul a b c = add_mul a (neg_ℤ b) c ∙ ap (λ (z : ℤ). a *ℤ c +ℤ z) (neg_mul b c)

pub mul_sub : (a b c : ℤ) → a *ℤ (b -ℤ c) ≡ a *ℤ b -ℤ a *ℤ c
mul_sub a b c = mul_comm a (b -ℤ c) ∙ sub_mul b c a ∙ ap₂ ◌-ℤ◌ (mul_comm b a) (mul_comm c a)

-- the last two factors change places
pub mul_swap : (a b c : ℤ) → (a *ℤ b) *ℤ c ≡ (a *ℤ c) *ℤ b
mul_swap a b c = mul_assoc a b c ∙ ap (λ (z : ℤ). a *ℤ z) (mul_comm b c) ∙ sym (mul_assoc a c b)

pub mul_mono : (a b c : ℤ) → pos 0 ≤ℤ c → a ≤ℤ b → (a *ℤ c) ≤ℤ (b *ℤ c)
mul_mono a b (pos c) k h =
    at_most_in (a *ℤ pos c) (b *ℤ pos c)
    (omega (arith, product_is a (pos c), product_is b (pos c), mul-le-mul_right c (le_out a b h)))
mul_mono a b (negsuc c) k h = absurd k.le

pub mul_strict : (a b : ℤ) (c : ℕ) → a <ℤ b → (a *ℤ pos (suc c)) <ℤ (b *ℤ pos (suc c))
mul_strict a b c h =
    below_in (a *ℤ pos (suc c)) (b *ℤ pos (suc c))
    (omega (arith, product_is a (pos (suc c)), product_is b (pos (suc c)), mul-le-mul_right (suc c) (lt_out a b h)))

mul_anti : (a b c : ℤ) → c <ℤ pos 0 → a <ℤ b → (b *ℤ c) <ℤ (a *ℤ c)
mul_anti a b (pos c) k h = absurd (omega (arith, ints))
mul_anti a b (negsuc c) k h =
    below_in (b *ℤ negsuc c) (a *ℤ negsuc c)
    (omega (arith, product_is a (negsuc c), product_is b (negsuc c), mul-le-mul_right (suc c) (lt_out a b h)))

-- Where b < a, a number z is not negative if some m lies between b·z and a·z.
pub nonneg_between : (a b z m : ℤ) → b <ℤ a → (b *ℤ z) ≤ℤ m → m ≤ℤ (a *ℤ z) → pos 0 ≤ℤ z
nonneg_between a b z m h lo hi =
    by_lt_z z (pos 0) (λ (neg : z <ℤ pos 0). let r : (a *ℤ z) <ℤ (b *ℤ z) = mul_anti b a z neg h in absurd (omega (arith, ints)))
    (λ ok. ok)
