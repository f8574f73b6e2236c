-- What the tests of directions say.
use Rattle.std.proofs.Common.{◌≡◌, true, not, ◌⊎◌, List, [], ◌∷◌, ℤ, pos, nat_abs, ◌≤ℤ◌, subst, inl, inr, arith}
use lib.Signed.{le_z}
use Rattle.std.specs.List.{AllByRecursion}
use Rattle.std.proofs.ByRecursion.{All-weaker}
use Rattle.std.proofs.lemmas.Int.{ints}
use Rattle.std.proofs.lemmas.Bool.{and_parts, or_cases, not-true, both_ways, eqb-true}
use Rattle.mojette.specs.declared.direction.Direction.{Direction}
use Rattle.mojette.specs.Directions.{gcd, equal, level_right, lawful, all_lawful}
use Rattle.mojette.proofs.Equal.{equal_true, equal_same}

-- what the proofs use of a lawful direction
pub record Lawful (d : Direction) : Type 0 where
  pub down : pos 0 ≤ℤ d.q
  pub coprime : gcd (nat_abs d.p) (nat_abs d.q) ≡ 1
  pub level : d.q ≡ pos 0 → d.p ≡ pos 1

not_left : (z : ℤ) → le_z (pos 0) z ≡ true → pos 0 ≤ℤ z
not_left z h = omega (arith, ints)

level_is : (d : Direction) → level_right d ≡ true → d.q ≡ pos 0 → d.p ≡ pos 1
level_is d h e = go (or_cases (not (equal d.q (pos 0))) (equal d.p (pos 1)) h)
  where
    go : (not (equal d.q (pos 0)) ≡ true) ⊎ (equal d.p (pos 1) ≡ true) → d.p ≡ pos 1
    go (inl t) = absurd (both_ways (equal d.q (pos 0)) (not-true _ t) (subst (λ (z : ℤ). equal d.q z ≡ true) e (equal_same d.q)))
    go (inr t) = equal_true d.p (pos 1) t

pub lawful_is : (d : Direction) → lawful d ≡ true → Lawful d
lawful_is d h =
    let a = and_parts _ _ h in
    let b = and_parts _ _ a.1 in
    let c = and_parts _ _ b.1 in
    let e = and_parts _ _ c.1 in
    record { down = not_left d.q b.0; coprime = eqb-true (gcd (nat_abs d.p) (nat_abs d.q)) 1 e.0; level = level_is d e.1 }

pub all_lawful_is : (ds : List Direction) → all_lawful ds ≡ true → AllByRecursion (λ d. lawful d ≡ true) ds
all_lawful_is [] h = tt
all_lawful_is (d ∷ ds) h = let e = and_parts (lawful d) (all_lawful ds) h in (e.0, all_lawful_is ds e.1)

pub each_lawful : (ds : List Direction) → all_lawful ds ≡ true → AllByRecursion Lawful ds
each_lawful ds h = All-weaker (λ d. lawful d ≡ true) Lawful lawful_is ds (all_lawful_is ds h)
