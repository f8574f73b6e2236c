-- Numbers within their bounds, as they are tested; and the bounds of bins.
use Rattle.std.proofs.Common.{◌≡◌, ℕ, ◌+◌, ◌-◌, ◌*◌, ◌<◌, ◌≤◌, true, ◌&&◌, ◌⊎◌, leb, eqb, List, [], ◌∷◌, map, length, pos, nat_abs, sym, ap, ◌∙◌, inl, inr, arith}
use lib.Signed.{le_z}
use Rattle.std.proofs.Math.Nat.{mod_self}
use Rattle.std.proofs.lemmas.Nat.{mul-le}
use Rattle.std.proofs.lemmas.Bool.{and_parts, and_from, leb-true, le-leb, eqb-true, cases_lt}
use Rattle.mojette.specs.declared.direction.Direction.{Direction}
use Rattle.mojette.specs.declared.direction.Record.{Record}
use Rattle.mojette.specs.Bins.{bins, all_bins}
use Rattle.mojette.specs.Bounds.{most_side, most_step, most_bins, OneTo}
use Rattle.mojette.specs.Directions.{gcd, lawful, all_lawful}
use Rattle.mojette.proofs.Euclid.{euclid}

pub within : (bound n : ℕ) → (leb 1 n && leb n bound) ≡ true → OneTo bound n
within bound n e = let p = and_parts (leb 1 n) (leb n bound) e in record { least = leb-true 1 n p.0; most = leb-true n bound p.1 }

pub is_within : (bound n : ℕ) → OneTo bound n → (leb 1 n && leb n bound) ≡ true
is_within bound n w = and_from _ _ (le-leb 1 n w.least) (le-leb n bound w.most)

-- The bins of a lawful direction ----------------------------------------------------------------------------------

-- a number is its own greatest divisor
gcd_self : (a : ℕ) → 0 < a → gcd a a ≡ a
gcd_self a some = euclid.goes_on a a (λ none. omega (arith, some, none)) ∙ ap (gcd a) (mod_self a) ∙ euclid.ends a

module _ (d : Direction) (law : lawful d ≡ true) where
  pub steps_most : (nat_abs d.p ≤ most_step) × (nat_abs d.q ≤ most_step)
  steps_most =
      let p = and_parts (leb (nat_abs d.p) most_step) _ law in
      let q = and_parts (leb (nat_abs d.q) most_step) _ (and_parts (le_z (pos 0) d.q) _ p.1).1 in
      (leb-true _ _ p.0, leb-true _ _ q.0)

  no_divisor : gcd (nat_abs d.p) (nat_abs d.q) ≡ 1
  no_divisor =
      let p = and_parts (leb (nat_abs d.p) most_step) _ law in
      let q = and_parts (leb (nat_abs d.q) most_step) _ (and_parts (le_z (pos 0) d.q) _ p.1).1 in
      eqb-true _ 1 (and_parts (eqb (gcd (nat_abs d.p) (nat_abs d.q)) 1) _ q.1).0

  -- not both are the most
  pub reach_most : nat_abs d.p + nat_abs d.q ≤ 2 * most_step - 1
  reach_most = go (cases_lt (2 * most_step - 1) (nat_abs d.p + nat_abs d.q))
    where
      go : (2 * most_step - 1 < nat_abs d.p + nat_abs d.q) ⊎ (nat_abs d.p + nat_abs d.q ≤ 2 * most_step - 1) → nat_abs d.p + nat_abs d.q ≤ 2 * most_step - 1
      go (inr h) = h
      go (inl h) =
          let p : nat_abs d.p ≡ most_step = omega (arith, steps_most.0, steps_most.1, h) in
          let q : nat_abs d.q ≡ most_step = omega (arith, steps_most.0, steps_most.1, h) in
          let both = sym (λ i. gcd (p i) (q i)) ∙ no_divisor in
          absurd (omega (arith, both, gcd_self most_step (omega arith)))

  pub bins_most : (P Q : ℕ) → P ≤ most_side → Q ≤ most_side → bins P Q d ≤ most_bins
  bins_most P Q columns rows =
      let down = mul-le (P - 1) (nat_abs d.q) (most_side - 1) (nat_abs d.q) (omega arith) (omega arith) in
      let along = mul-le (Q - 1) (nat_abs d.p) (most_side - 1) (nat_abs d.p) (omega arith) (omega arith) in
      omega (arith, down, along, reach_most)

-- The positions of lawful places
pub all_bins_most : (P Q : ℕ) (es : List Record) → P ≤ most_side → Q ≤ most_side → all_lawful (map (λ e. e.direction) es) ≡ true → all_bins P Q es ≤ length es * most_bins
all_bins_most P Q [] columns rows laws = omega arith
all_bins_most P Q (e ∷ es) columns rows laws =
    let parts = and_parts (lawful e.direction) (all_lawful (map (λ e. e.direction) es)) laws in
    let here = bins_most e.direction parts.0 P Q columns rows in
    let later = all_bins_most P Q es columns rows parts.1 in
    omega arith
