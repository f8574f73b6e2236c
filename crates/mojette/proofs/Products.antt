-- Products of two signed numbers of 32 bits, taken at 64.
use Rattle.std.proofs.Common.{◌≡◌, ℕ, zero, suc, ◌*◌, ◌^◌, ◌≤◌, ℤ, pos, negsuc, ◌*ℤ◌, neg_ℤ, nat_abs, ap, ◌∙◌, mul-le-mul, arith, w32, w64, SFits, to_z, of_z}
use lib.Signed.{mag}
use Rattle.std.proofs.lemmas.Int.{to_z-of_z}

mag_minus : (k : ℕ) → mag (neg_ℤ (pos k)) ≤ k
mag_minus zero = omega arith
mag_minus (suc k) = omega arith

size_most : (a : ℤ) → SFits w32 a → nat_abs a ≤ 2 ^ 31
size_most (pos n) f = omega (arith, f.sfits)
size_most (negsuc n) f = omega (arith, f.sfits)

mag_product : (a b : ℤ) → mag (a *ℤ b) ≤ nat_abs a * nat_abs b
mag_product (pos m) (pos n) = omega arith
mag_product (pos m) (negsuc n) = mag_minus (m * suc n)
mag_product (negsuc m) (pos n) = mag_minus (suc m * n)
mag_product (negsuc m) (negsuc n) = omega arith

pub product_fits : (a b : ℤ) → SFits w32 a → SFits w32 b → SFits w64 (a *ℤ b)
product_fits a b f g = record { sfits = omega (arith, mag_product a b, mul-le-mul (size_most a f) (size_most b g)) }

wide : (a : ℤ) → SFits w32 a → SFits w64 a
wide a f = record { sfits = omega (arith, f.sfits) }

-- a result that holds a number of 32 bits, widened
same : (a r : ℤ) → SFits w32 a → r ≡ to_z w32 (of_z w32 a) → to_z w64 (of_z w64 r) ≡ a
same a r f e = ap (λ z. to_z w64 (of_z w64 z)) (e ∙ to_z-of_z w32 a f) ∙ to_z-of_z w64 a (wide a f)

pub product_is :
    (a b r s : ℤ) → SFits w32 a → SFits w32 b → r ≡ to_z w32 (of_z w32 a) → s ≡ to_z w32 (of_z w32 b)
    → to_z w64 (of_z w64 (to_z w64 (of_z w64 r) *ℤ to_z w64 (of_z w64 s))) ≡ a *ℤ b
product_is a b r s f g e h =
    (λ i. to_z w64 (of_z w64 (same a r f e i *ℤ same b s g h i))) ∙ to_z-of_z w64 (a *ℤ b) (product_fits a b f g)
