-- The bin of a pixel, in natural numbers.
use Rattle.std.proofs.Common.{◌≡◌, ℕ, zero, suc, ◌+◌, ◌-◌, ◌*◌, ◌/◌, ◌%◌, ◌<◌, ◌≤◌, Bool, true, false, cond, ltb, ℤ, pos, negsuc, ◌+ℤ◌, ◌*ℤ◌, neg_ℤ, nat_abs, sym, refl, ap, ◌∙◌, subst, subst₂, arith}
use lib.Signed.{lt_z, le_z}
use Rattle.std.specs.Int.{int_min}
use Rattle.std.proofs.lemmas.Nat.{mul-le, mod-mul-add, div-mul-add}
use Rattle.std.proofs.lemmas.Int.{ints}
use Rattle.std.proofs.lemmas.Bool.{cond-true, cond-false, lt-ltb, le-ltb, and_parts, leb-true}
use Rattle.mojette.specs.declared.direction.Direction.{Direction}
use Rattle.mojette.specs.declared.direction.Record.{Record}
use Rattle.mojette.specs.Bins.{raw, raw_of, bins, in_bin}
use Rattle.mojette.specs.Bounds.{most_side}
use Rattle.mojette.specs.Directions.{equal, lawful}
use Rattle.mojette.specs.Meaning.{side_ok}
use Rattle.mojette.proofs.Equal.{equal_true, equal_same}
use Rattle.plan.specs.declared.places.Place.{Place}
use Rattle.plan.specs.Laid.{laid, signed, direction_of, turned, bin_number}

pub size_of : (leftward : Bool) (n : ℕ) → nat_abs (signed leftward n) ≡ n
size_of true zero = refl
size_of true (suc n) = refl
size_of false n = refl

-- The place of a lawful record has its direction ---------------------------------------------------------------------

signed_back : (z : ℤ) → signed (lt_z z (pos 0)) (nat_abs z) ≡ z
signed_back (pos n) = cond-false (ltb n 0) (neg_ℤ (pos n)) (pos n) (le-ltb n 0 (omega arith))
signed_back (negsuc n) = refl

natural : (z : ℤ) → le_z (pos 0) z ≡ true → pos (nat_abs z) ≡ z
natural (pos n) h = refl
natural (negsuc n) h = let z : ◌≡◌ {A = ℕ} 0 1 = cc in absurd (omega arith)

pub laid_direction : (P Q : ℕ) (e : Record) (start : ℕ) → lawful e.direction ≡ true → direction_of (laid P Q e start) ≡ e.direction
laid_direction P Q e start h =
    let most = and_parts _ _ h in
    let least = and_parts _ _ most.1 in
    λ i. record { p = signed_back e.direction.p i; q = natural e.direction.q least.0 i }

pub side_most : (n : ℕ) → side_ok n ≡ true → (1 ≤ n) × (n ≤ most_side)
side_most n h = let parts = and_parts _ _ h in (leb-true 1 n parts.0, leb-true n most_side parts.1)

-- The bin of a pixel --------------------------------------------------------------------------------------------------

-- a tile of k + x + 1 columns and l + y + 1 rows
raw_at : (leftward : Bool) (s q k x l y : ℕ) →
    neg_ℤ (pos (k * q)) +ℤ (pos (cond leftward l y) *ℤ signed leftward s)
    ≡ (neg_ℤ (pos ((k + x) * q)) +ℤ (pos (l + y) *ℤ int_min (signed leftward s) (pos 0))) +ℤ pos (x * q + y * s)
raw_at true zero q k x l y = omega (arith, ints)
raw_at true (suc n) q k x l y = omega (arith, ints)
raw_at false zero q k x l y = omega (arith, ints)
raw_at false (suc n) q k x l y =
    let m : int_min (pos (suc n)) (pos 0) ≡ pos 0 = cond-true (ltb 0 (suc n)) (pos 0) (pos (suc n)) (lt-ltb 0 (suc n) (omega arith)) in
    rw m (omega (arith, ints))

pub turned_back : (b : Bool) (Q n : ℕ) → n < Q → turned b Q (turned b Q n) ≡ n
turned_back true Q n l = omega arith
turned_back false Q n l = refl

pub turned_inside : (b : Bool) (Q n : ℕ) → n < Q → turned b Q n < Q
turned_inside true Q n l = omega arith
turned_inside false Q n l = l

-- a bin is known by its raw number
same_bin : (P Q : ℕ) (d : Direction) (a b : ℕ) → raw_of P Q d a ≡ raw_of P Q d b → a ≡ b
same_bin P Q d a b e = omega (arith, ints)

module _ (P Q : ℕ) (x : Place) (k l : ℕ) (h : k < P) (h' : l < Q) where
  raw_is : raw (direction_of x) k l ≡ raw_of P Q (direction_of x) (bin_number P Q x k l)
  raw_is =
      let v = turned x.leftward Q l in
      let inside = turned_inside x.leftward Q l h' in
      let e : k + (P - 1 - k) ≡ P - 1 = omega arith in
      let f : Q - 1 - v + v ≡ Q - 1 = omega arith in
      let there : cond x.leftward (Q - 1 - v) v ≡ l = turned_back x.leftward Q l h' in
      ap (λ n. neg_ℤ (pos (k * x.q)) +ℤ (pos n *ℤ signed x.leftward x.slope)) (sym there)
      ∙ subst₂ (λ m n. neg_ℤ (pos (k * x.q)) +ℤ (pos (cond x.leftward (Q - 1 - v) v) *ℤ signed x.leftward x.slope)
      ≡ (neg_ℤ (pos (m * x.q)) +ℤ (pos n *ℤ int_min (signed x.leftward x.slope) (pos 0))) +ℤ pos ((P - 1 - k) * x.q + v * x.slope))
      e f (raw_at x.leftward x.slope x.q k (P - 1 - k) (Q - 1 - v) v)

  -- at the pixel's cell
  raw_of_cell : raw (direction_of x) ((l * P + k) % P) ((l * P + k) / P) ≡ raw_of P Q (direction_of x) (bin_number P Q x k l)
  raw_of_cell =
      subst₂ (λ i j. raw (direction_of x) i j ≡ raw_of P Q (direction_of x) (bin_number P Q x k l)) (sym (mod-mul-add l P k h)) (sym (div-mul-add l P k h)) raw_is

  pub bin_inside : bin_number P Q x k l < bins P Q (direction_of x)
  bin_inside =
      let a = mul-le (P - 1 - k) x.q (P - 1) x.q (omega arith) (omega arith) in
      let inside = turned_inside x.leftward Q l h' in
      let b = mul-le (turned x.leftward Q l) x.slope (Q - 1) x.slope (omega arith) (omega arith) in
      let e = ap (λ (n : ℕ). (Q - 1) * n) (size_of x.leftward x.slope) in
      omega arith

  -- Down the bins of a row: the bin that stands q below the number where column k begins.
  module _ (n : ℕ) (e : n ≡ (P - k) * x.q + turned x.leftward Q l * x.slope) where
    pub bin_below : n - x.q ≡ bin_number P Q x k l
    bin_below =
        let f : P - k ≡ suc (P - 1 - k) = omega arith in
        let e' = e ∙ ap (λ m. m * x.q + turned x.leftward Q l * x.slope) f in
        omega arith

    pub below_inside : n - x.q < bins P Q (direction_of x)
    below_inside = subst (λ m. m < bins P Q (direction_of x)) (sym bin_below) bin_inside

  -- The pixel lies in that bin, and in no other.
  pub lies_there : in_bin P Q (direction_of x) (l * P + k) (bin_number P Q x k l) ≡ true
  lies_there =
      subst (λ z. equal (raw (direction_of x) ((l * P + k) % P) ((l * P + k) / P)) z ≡ true) raw_of_cell
      (equal_same (raw (direction_of x) ((l * P + k) % P) ((l * P + k) / P)))

  pub lies_only_there : (b : ℕ) → in_bin P Q (direction_of x) (l * P + k) b ≡ true → b ≡ bin_number P Q x k l
  lies_only_there b e = sym (same_bin P Q (direction_of x) (bin_number P Q x k l) b (sym raw_of_cell ∙ equal_true _ _ e))
