-- The equality test of integers.
use Rattle.std.proofs.Common.{◌≡◌, true, false, not, ℤ, arith}
use lib.Signed.{lt_z}
use Rattle.std.proofs.lemmas.Int.{ints}
use Rattle.std.proofs.lemmas.Bool.{and_parts, not-true}
use Rattle.mojette.specs.Directions.{equal}

pub equal_true : (a b : ℤ) → equal a b ≡ true → a ≡ b
equal_true a b h =
    let e = and_parts (not (lt_z a b)) (not (lt_z b a)) h in
    let e₁ = not-true (lt_z a b) e.0 in
    let e₂ = not-true (lt_z b a) e.1 in
    omega (arith, ints)

pub equal_same : (a : ℤ) → equal a a ≡ true
equal_same a = let e : lt_z a a ≡ false = grind (arith, ints) in rw e
