-- Every pixel of a tile lies in one bin of each lawful direction.
use Rattle.std.proofs.Common.{◌≡◌, ℕ, zero, suc, ◌+◌, ◌-◌, ◌*◌, ◌<◌, true, ltb, ℤ, pos, negsuc, ◌+ℤ◌, ◌*ℤ◌, neg_ℤ, nat_abs, ◌≤ℤ◌, subst₂, arith}
use Rattle.std.specs.Int.{int_min}
use Rattle.std.proofs.lemmas.Int.{ints}
use Rattle.std.proofs.lemmas.Bool.{cond-true, lt-ltb}
use Rattle.mojette.specs.declared.direction.Direction.{Direction}
use Rattle.mojette.specs.Bins.{raw, raw_of, bins}
use Rattle.mojette.specs.Directions.{lawful}
use Rattle.katz.proofs.Lawful.{lawful_is}

-- the bin of pixel (k, l)
pub record BinOf (P Q : ℕ) (d : Direction) (k l : ℕ) : Type 0 where
  pub b : ℕ
  pub inside : b < bins P Q d
  pub same : raw d k l ≡ raw_of P Q d b

-- the same for a tile of u + 1 columns and v + 1 rows
abbrev Reached : ℕ → ℕ → ℤ → ℤ → ℕ → ℕ → Type 0
Reached u v p q k l =
    (b : ℕ) × (b < u * nat_abs q + v * nat_abs p + 1)
    × (neg_ℤ (pos k *ℤ q) +ℤ (pos l *ℤ p) ≡ (neg_ℤ (pos u *ℤ q) +ℤ (pos v *ℤ int_min p (pos 0))) +ℤ pos b)

reach : (p : ℤ) (q k k' l l' : ℕ) → Reached (k + k') (l + l') p (pos q) k l
reach (pos zero) q k k' l l' =
    let e : neg_ℤ (pos (k * q)) +ℤ (pos l *ℤ pos 0) ≡ (neg_ℤ (pos ((k + k') * q)) +ℤ (pos (l + l') *ℤ pos 0)) +ℤ pos (k' * q) = omega (arith, ints) in
    (k' * q, omega arith, e)
reach (pos (suc n)) q k k' l l' =
    let e : neg_ℤ (pos (k * q)) +ℤ (pos l *ℤ pos (suc n)) ≡ (neg_ℤ (pos ((k + k') * q)) +ℤ (pos (l + l') *ℤ pos 0)) +ℤ pos (k' * q + l * suc n) = omega (arith, ints) in
    let m : int_min (pos (suc n)) (pos 0) ≡ pos 0 = cond-true (ltb 0 (suc n)) (pos 0) (pos (suc n)) (lt-ltb 0 (suc n) (omega arith)) in
    (k' * q + l * suc n, omega arith, rw m e)
reach (negsuc n) q k k' l l' =
    let e : neg_ℤ (pos (k * q)) +ℤ (pos l *ℤ negsuc n) ≡ (neg_ℤ (pos ((k + k') * q)) +ℤ (pos (l + l') *ℤ negsuc n)) +ℤ pos (k' * q + l' * suc n) = omega (arith, ints) in
    (k' * q + l' * suc n, omega arith, e)

reach_down : (p q : ℤ) (k k' l l' : ℕ) → pos 0 ≤ℤ q → Reached (k + k') (l + l') p q k l
reach_down p (pos q) k k' l l' h = reach p q k k' l l'
reach_down p (negsuc q) k k' l l' h = absurd h.le

pub raw_in_range : (P Q : ℕ) (d : Direction) → lawful d ≡ true → (k l : ℕ) → k < P → l < Q → BinOf P Q d k l
raw_in_range P Q d law k l h h' =
    let e : k + (P - suc k) ≡ P - 1 = omega arith in
    let f : l + (Q - suc l) ≡ Q - 1 = omega arith in
    let r : Reached (P - 1) (Q - 1) d.p d.q k l =
    subst₂ (λ u v. Reached u v d.p d.q k l) e f (reach_down d.p d.q k (P - suc k) l (Q - suc l) (lawful_is d law).down) in
    record { b = r.0; inside = r.1; same = r.2 }
