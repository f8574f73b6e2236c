-- Euclid's rule: more steps than needed change nothing.
use Rattle.std.proofs.Common.{◌≡◌, ℕ, zero, suc, ◌%◌, ◌<◌, sym, refl, mod-lt, arith}
use Rattle.mojette.specs.Directions.{gcd_within, gcd}
use Rattle.mojette.specs.Directions.{Euclid as Rule}

same_steps : (k j a b : ℕ) → b < k → b < j → gcd_within k a b ≡ gcd_within j a b
same_steps zero j a b h l = absurd (omega arith)
same_steps (suc k) zero a b h l = absurd (omega arith)
same_steps (suc k) (suc j) a zero h l = refl
same_steps (suc k) (suc j) a (suc b) h l =
    let m = mod-lt a {m = suc b} (omega arith) in same_steps k j (suc b) (a % suc b) (omega arith) (omega arith)

goes_on : (a b : ℕ) → (b ≡ 0 → ⊥) → gcd a b ≡ gcd b (a % b)
unfolding gcd
goes_on a zero h = absurd (h refl)
goes_on a (suc b) h =
    let m = mod-lt a {m = suc b} (omega arith) in
    sym (same_steps (suc (a % suc b)) (suc b) (suc b) (a % suc b) (omega arith) (omega arith))

ends : (a : ℕ) → gcd a 0 ≡ a
unfolding gcd
ends a = refl

pub euclid : Rule
euclid = record { ends = ends; goes_on = goes_on }
