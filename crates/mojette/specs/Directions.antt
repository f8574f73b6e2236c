-- Directions of projection: which are lawful, and their order.
use Rattle.std.specs.Prelude.{◌≡◌, ℕ, zero, suc, ◌+◌, ◌%◌, Bool, true, not, ◌&&◌, ◌||◌, List, [], ◌∷◌, ℤ, pos, ◌*ℤ◌, ◌==◌, ◌≢◌, int_le, int_lt, nat_le, unsigned_abs}
use Rattle.mojette.specs.Bounds.{most_step}
use Rattle.mojette.specs.declared.direction.Direction.{Direction}

-- The greatest common divisor by Euclid's rule, in at most n steps.
abbrev pub gcd_within : ℕ → ℕ → ℕ → ℕ
gcd_within zero a b = a
gcd_within (suc n) a zero = a
gcd_within (suc n) a (suc b) = gcd_within n (suc b) (a % suc b)

-- g(a, b). The second number falls with each step, so that b + 1 steps suffice: `Euclid` says that they do.
unfoldable pub gcd : ℕ → ℕ → ℕ
gcd a b = gcd_within (suc b) a b

-- g(a, 0) = a, and g(a, b) = g(b, a mod b).
pub record Euclid : Type 0 where
  pub ends : (a : ℕ) → gcd a 0 ≡ a
  pub goes_on : (a b : ℕ) → (b ≢ 0) → gcd a b ≡ gcd b (a % b)

abbrev pub equal : ℤ → ℤ → Bool
equal a b = not (int_lt a b) && not (int_lt b a)

-- p = 1 where q = 0
abbrev pub level_right : Direction → Bool
level_right d = not (equal d.q (pos 0)) || equal d.p (pos 1)

-- |p| and q at most 7, q at least 0, no common divisor but 1, and p = 1 where q = 0
abbrev pub lawful : Direction → Bool
lawful d =
    nat_le (unsigned_abs d.p) most_step
    && (int_le (pos 0) d.q
    && (nat_le (unsigned_abs d.q) most_step
    && (gcd (unsigned_abs d.p) (unsigned_abs d.q) == 1
    && level_right d)))

-- (p, q) stands before (p', q') when p·q' > p'·q.
abbrev pub before : Direction → Direction → Bool
before d e = int_lt (e.p *ℤ d.q) (d.p *ℤ e.q)

abbrev pub all_lawful : List Direction → Bool
all_lawful [] = true
all_lawful (d ∷ ds) = lawful d && all_lawful ds

-- each before the next
abbrev pub in_order : List Direction → Bool
in_order [] = true
in_order (d ∷ []) = true
in_order (d ∷ e ∷ ds) = before d e && in_order (e ∷ ds)

-- the directions of a plan, none included
pub record LawfulDirections (ds : List Direction) : Type 0 where
  pub each : all_lawful ds ≡ true
  pub ordered : in_order ds ≡ true

-- C, the sum of all |p|, and R, the sum of all q
abbrev pub columns : List Direction → ℕ
columns [] = 0
columns (d ∷ ds) = unsigned_abs d.p + columns ds

abbrev pub rows : List Direction → ℕ
rows [] = 0
rows (d ∷ ds) = unsigned_abs d.q + rows ds
