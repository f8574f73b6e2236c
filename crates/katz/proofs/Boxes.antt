-- Pictures that are zero outside a box. While the box has room in the tile, a step cuts nothing off.
use Rattle.std.proofs.Common.{◌≡◌, ℕ, ◌+◌, ◌-◌, ◌<◌, ◌≤◌, true, false, cond, ◌&&◌, ◌⊎◌, List, [], ◌∷◌, ℤ, pos, negsuc, ◌-ℤ◌, nat_abs, ◌≤ℤ◌, ◌<ℤ◌, sym, refl, ◌∙◌, inl, inr, arith}
use Rattle.std.specs.List.{AllByRecursion}
use Rattle.std.proofs.lemmas.Int.{ints}
use Rattle.std.proofs.lemmas.Bool.{cases_Bool, and_cases, cond-true, cond-false, ltb-false}
use Rattle.samples.specs.declared.kind.Kind.{Ghosts as Operations}
use Rattle.mojette.specs.declared.direction.Direction.{Direction}
use Rattle.mojette.specs.Directions.{columns, rows}
use Rattle.katz.specs.Made.{Picture, left, leftward, below, minus, step}
use Rattle.katz.proofs.Sums.{minus_zeros}

-- how far a direction goes right, and how far all of them do
abbrev pub right : ℤ → ℕ
right (pos p) = p
right (negsuc p) = 0

abbrev pub rightward : List Direction → ℕ
rightward [] = 0
rightward (d ∷ ds) = right d.p + rightward ds

pub parts : (p : ℤ) → p ≡ pos (right p) -ℤ pos (left p)
parts (pos p) = omega (arith, ints)
parts (negsuc p) = omega (arith, ints)

pub both_parts : (ds : List Direction) → leftward ds + rightward ds ≡ columns ds
both_parts [] = refl
both_parts (d ∷ ds) = let e₁ = both_parts ds in let e₂ = one d.p in omega arith
  where
    one : (p : ℤ) → left p + right p ≡ nat_abs p
    one (pos p) = omega arith
    one (negsuc p) = omega arith

outside : (n : ℕ) (k : ℤ) → below n k ≡ false → (k <ℤ pos 0) ⊎ (pos n ≤ℤ k)
outside n (pos k) h = let b = ltb-false k n h in inr (omega (arith, ints))
outside n (negsuc k) h = inl (omega (arith, ints))

module _ {S : Type 0} (K : Operations S) where
  -- zero outside the columns from first to last and the rows from 0 to low
  pub record Box (f : Picture S) (first last low : ℕ) : Type 0 where
    pub before : (k l : ℤ) → k <ℤ pos first → f k l ≡ K.zero
    pub after : (k l : ℤ) → pos last <ℤ k → f k l ≡ K.zero
    pub above : (k l : ℤ) → l <ℤ pos 0 → f k l ≡ K.zero
    pub beneath : (k l : ℤ) → pos low <ℤ l → f k l ≡ K.zero

  -- room in the tile for the box to grow by the direction (p, q)
  pub record Fits (P Q : ℕ) (p q : ℤ) (first last low : ℕ) : Type 0 where
    pub in_order : first ≤ last
    pub at_left : left p ≤ first
    pub at_right : last + right p < P
    pub at_bottom : low + nat_abs q < Q
    pub downward : q ≡ pos (nat_abs q)

  module _ (P Q : ℕ) (d : Direction) (f : Picture S) (first last low : ℕ) (fits : Fits P Q d.p d.q first last low) (box : Box f first last low) where
    both_zero : (k l : ℤ) → f k l ≡ K.zero → f (k -ℤ d.p) (l -ℤ d.q) ≡ K.zero → minus K (f k l) (f (k -ℤ d.p) (l -ℤ d.q)) ≡ K.zero
    both_zero k l = minus_zeros K (f k l) (f (k -ℤ d.p) (l -ℤ d.q))

    zero_before : (k l : ℤ) → k <ℤ pos (first - left d.p) → minus K (f k l) (f (k -ℤ d.p) (l -ℤ d.q)) ≡ K.zero
    zero_before k l h = let e = parts d.p in both_zero k l (box.before _ _ (omega (arith, ints, fits))) (box.before _ _ (omega (arith, ints, fits)))

    zero_after : (k l : ℤ) → pos (last + right d.p) <ℤ k → minus K (f k l) (f (k -ℤ d.p) (l -ℤ d.q)) ≡ K.zero
    zero_after k l h = let e = parts d.p in both_zero k l (box.after _ _ (omega (arith, ints))) (box.after _ _ (omega (arith, ints)))

    zero_above : (k l : ℤ) → l <ℤ pos 0 → minus K (f k l) (f (k -ℤ d.p) (l -ℤ d.q)) ≡ K.zero
    zero_above k l h = let e = fits.downward in both_zero k l (box.above _ _ h) (box.above _ _ (omega (arith, ints)))

    zero_beneath : (k l : ℤ) → pos (low + nat_abs d.q) <ℤ l → minus K (f k l) (f (k -ℤ d.p) (l -ℤ d.q)) ≡ K.zero
    zero_beneath k l h = let e = fits.downward in both_zero k l (box.beneath _ _ (omega (arith, ints))) (box.beneath _ _ (omega (arith, ints)))

    -- a step cuts nothing off
    pub step_is : (k l : ℤ) → step K P Q d f k l ≡ minus K (f k l) (f (k -ℤ d.p) (l -ℤ d.q))
    step_is k l = go (cases_Bool (below P k && below Q l))
      where
        new : S
        new = minus K (f k l) (f (k -ℤ d.p) (l -ℤ d.q))

        zero_out : (below P k ≡ false) ⊎ (below Q l ≡ false) → new ≡ K.zero
        zero_out (inl h) = col (outside P k h)
          where
            col : (k <ℤ pos 0) ⊎ (pos P ≤ℤ k) → new ≡ K.zero
            col (inl h) = zero_before k l (omega (arith, ints))
            col (inr h) = zero_after k l (omega (arith, ints, fits.at_right))
        zero_out (inr h) = lin (outside Q l h)
          where
            lin : (l <ℤ pos 0) ⊎ (pos Q ≤ℤ l) → new ≡ K.zero
            lin (inl h) = zero_above k l h
            lin (inr h) = zero_beneath k l (omega (arith, ints, fits.at_bottom))

        go : (below P k && below Q l ≡ true) ⊎ (below P k && below Q l ≡ false) → cond (below P k && below Q l) new K.zero ≡ new
        go (inl t) = cond-true _ new K.zero t
        go (inr t) = cond-false _ new K.zero t ∙ sym (zero_out (and_cases (below P k) (below Q l) t))

    step_box : Box (step K P Q d f) (first - left d.p) (last + right d.p) (low + nat_abs d.q)
    step_box =
        record {
          before = λ k l h. step_is k l ∙ zero_before k l h;
          after = λ k l h. step_is k l ∙ zero_after k l h;
          above = λ k l h. step_is k l ∙ zero_above k l h;
          beneath = λ k l h. step_is k l ∙ zero_beneath k l h;
        }

  -- a box with room in the tile for all the directions
  pub record Room (P Q : ℕ) (ds : List Direction) (f : Picture S) : Type 0 where
    pub first : ℕ
    pub last : ℕ
    pub low : ℕ
    pub box : Box f first last low
    pub in_order : first ≤ last
    pub at_left : leftward ds ≤ first
    pub at_right : last + rightward ds < P
    pub at_bottom : low + rows ds < Q
    pub downward : AllByRecursion (λ d. d.q ≡ pos (nat_abs d.q)) ds

  pub room_fits : (P Q : ℕ) (d : Direction) (ds : List Direction) (f : Picture S) (r : Room P Q (d ∷ ds) f)
      → Fits P Q d.p d.q r.first r.last r.low
  room_fits P Q d ds f r =
      record {
        in_order = r.in_order;
        at_left = omega (arith, r.at_left);
        at_right = omega (arith, r.at_right);
        at_bottom = omega (arith, r.at_bottom);
        downward = r.downward.0;
      }

  pub room_step : (P Q : ℕ) (d : Direction) (ds : List Direction) (f : Picture S) → Room P Q (d ∷ ds) f → Room P Q ds (step K P Q d f)
  room_step P Q d ds f r =
      record {
        first = r.first - left d.p;
        last = r.last + right d.p;
        low = r.low + nat_abs d.q;
        box = step_box P Q d f r.first r.last r.low (room_fits P Q d ds f r) r.box;
        in_order = omega (arith, r.in_order);
        at_left = omega (arith, r.at_left);
        at_right = omega (arith, r.at_right);
        at_bottom = omega (arith, r.at_bottom);
        downward = r.downward.1;
      }
