-- The edge of a set of pixels along a vector: two of its pixels, one some steps of the vector from the other,
-- with all of the set on one side of the line through them.
use Rattle.std.proofs.Common.{◌≡◌, ℕ, zero, suc, true, ℤ, pos, negsuc, ◌-ℤ◌, ◌*ℤ◌, ◌≤ℤ◌, arith}
use Rattle.std.proofs.lemmas.Int.{ints}
use Rattle.katz.specs.Sets.{Pixels, Within, Nonempty}
use Rattle.katz.proofs.Integers.{mul_sub}
use Rattle.katz.proofs.Bezout.{Bezout, times, first_is, second_is}
use Rattle.katz.proofs.Pixels.{Lowest, lowest}

-- x columns and y rows
pub record Vector : Type 0 where
  pub x : ℤ
  pub y : ℤ

-- Equal at two pixels exactly if the line through them goes along v.
abbrev pub side : Vector → ℕ → ℕ → ℤ
side v k l = v.x *ℤ pos l -ℤ v.y *ℤ pos k

pub record Edge (S : Pixels) (v : Vector) : Type 0 where
  pub k : ℕ
  pub l : ℕ
  pub k' : ℕ
  pub l' : ℕ
  pub here : S k l ≡ true
  pub there : S k' l' ≡ true
  -- from (k, l) to (k', l') it is n + 1 steps
  pub n : ℕ
  pub right : pos k' -ℤ pos k ≡ pos (suc n) *ℤ v.x
  pub down : pos l' -ℤ pos l ≡ pos (suc n) *ℤ v.y
  pub least : (i j : ℕ) → S i j ≡ true → side v k l ≤ℤ side v i j
  pub least' : (i j : ℕ) → S i j ≡ true → side v k' l' ≤ℤ side v i j

-- another pixel of S on the line along v through (k, l)
pub record Beside (S : Pixels) (v : Vector) (k l : ℕ) : Type 0 where
  pub k' : ℕ
  pub l' : ℕ
  pub here : S k' l' ≡ true
  pub same : side v k' l' ≡ side v k l
  pub other : ¬ ((k' ≡ k) × (l' ≡ l))

-- Where no pixel of S is alone on its line along v, the line on which `side` is least holds an edge.
pub edge :
    (P Q : ℕ) (S : Pixels) → Within P Q S → Nonempty S → (v : Vector) → Bezout v.x v.y (pos 1)
    → ((k l : ℕ) → S k l ≡ true → Beside S v k l) → Edge S v
edge P Q S inside some v c beside =
    go (times x y dx dy c aligned) (first_is x y dx dy c aligned) (second_is x y dx dy c aligned)
  where
    x : ℤ
    x = v.x

    y : ℤ
    y = v.y

    m : Lowest S (side v)
    m = lowest P Q S inside some (side v)

    w : Beside S v m.k m.l
    w = beside m.k m.l m.here

    dx : ℤ
    dx = pos w.k' -ℤ pos m.k

    dy : ℤ
    dy = pos w.l' -ℤ pos m.l

    aligned : x *ℤ dy ≡ y *ℤ dx
    aligned =
        let e = w.same in
        let e₁ = mul_sub x (pos w.l') (pos m.l) in
        let e₂ = mul_sub y (pos w.k') (pos m.k) in
        omega (arith, ints)

    least' : (i j : ℕ) → S i j ≡ true → side v w.k' w.l' ≤ℤ side v i j
    least' i j h = rw w.same (m.least i j h)

    go : (n : ℤ) → dx ≡ n *ℤ x → dy ≡ n *ℤ y → Edge S v
    go (pos zero) e e' = absurd (w.other ((omega (arith, ints), omega (arith, ints))))
    go (pos (suc n)) e e' =
        record {
          k = m.k;
          l = m.l;
          k' = w.k';
          l' = w.l';
          here = m.here;
          there = w.here;
          n = n;
          right = e;
          down = e';
          least = m.least;
          least' = least';
        }
    go (negsuc n) e e' =
        record {
          k = w.k';
          l = w.l';
          k' = m.k;
          l' = m.l;
          here = w.here;
          there = m.here;
          n = n;
          right = omega (arith, ints);
          down = omega (arith, ints);
          least = least';
          least' = m.least;
        }
