-- The sums of the bins of a picture, and what a step does to them: with the step along d', each sum of a direction d
-- becomes the difference of two, and of the same one if d is d'.
use Rattle.std.proofs.Common.{◌≡◌, ℕ, ◌+◌, ◌*◌, ◌/◌, ◌%◌, ◌<◌, Bool, true, false, cond, not, ◌&&◌, List, [], ◌∷◌, get_or, ℤ, pos, ◌+ℤ◌, ◌-ℤ◌, ◌*ℤ◌, neg_ℤ, sym, refl, ap, ◌∙◌, ap₂, arith}
use lib.Signed.{lt_z}
use Rattle.std.specs.List.{AllByRecursion}
use Rattle.std.proofs.lemmas.List.FromFn.{get_or-map-range_with_len}
use Rattle.std.proofs.lemmas.Int.{ints}
use Rattle.samples.specs.declared.kind.Kind.{Ghosts as Operations}
use Rattle.samples.specs.Sums.{sum_below}
use Rattle.mojette.specs.declared.direction.Direction.{Direction}
use Rattle.mojette.specs.Bins.{raw}
use Rattle.mojette.specs.Directions.{equal}
use Rattle.mojette.specs.Transform.{sample_at, raw_sum}
use Rattle.katz.specs.Made.{Picture, cell_of, minus, step, steps, tile_of}
use Rattle.katz.proofs.Boxes.{parts, Box, Fits, step_is, Room, room_fits, room_step}
use Rattle.katz.proofs.Integers.{sub_mul}
use Rattle.katz.proofs.Pixels.{cell_below, at_cell}
use Rattle.samples.proofs.Sums.{sum_same, sum_zero}
use Rattle.katz.proofs.Sums.{sum_minus, sum_rows, sum_shift, minus_zeros}

-- the raw number of any pixel of the plane
abbrev line : Direction → ℤ → ℤ → ℤ
line d k l = neg_ℤ (k *ℤ d.q) +ℤ (l *ℤ d.p)

-- how much raw numbers of d grow along e
abbrev growth : Direction → Direction → ℤ
growth d e = line d e.p e.q

line_shift : (d e : Direction) (k l : ℤ) → line d (k -ℤ e.p) (l -ℤ e.q) ≡ line d k l -ℤ growth d e
line_shift d e k l = go d.p d.q e.p e.q
  where
    go : (p q p' q' : ℤ) → neg_ℤ ((k -ℤ p') *ℤ q) +ℤ ((l -ℤ q') *ℤ p) ≡ (neg_ℤ (k *ℤ q) +ℤ (l *ℤ p)) -ℤ (neg_ℤ (p' *ℤ q) +ℤ (q' *ℤ p))
    go p q p' q' = let e₁ = sub_mul k p' q in let e₂ = sub_mul l q' p in omega (arith, ints)

no_growth : (d : Direction) (b : ℤ) → b -ℤ growth d d ≡ b
no_growth d b = go d.p d.q
  where
    go : (p q : ℤ) → b -ℤ (neg_ℤ (p *ℤ q) +ℤ (q *ℤ p)) ≡ b
    go p q = omega (arith, ints)

less_shift : (a b c : ℤ) → lt_z (a -ℤ c) (b -ℤ c) ≡ lt_z a b
less_shift a b c = grind (arith, ints)

equal_shift : (a b c : ℤ) → equal (a -ℤ c) (b -ℤ c) ≡ equal a b
equal_shift a b c = ap₂ (λ (x y : Bool). not x && not y) (less_shift a b c) (less_shift b a c)

module _ {S : Type 0} (K : Operations S) where
  -- the samples on one line of a direction
  abbrev on_line : Picture S → Direction → ℤ → Picture S
  on_line f d b k l = cond (equal (line d k l) b) (f k l) K.zero

  pick_minus : (t : Bool) (x y : S) → cond t (minus K x y) K.zero ≡ minus K (cond t x K.zero) (cond t y K.zero)
  pick_minus true x y = refl
  pick_minus false x y = sym (K.laws.cancel K.zero)

  pick_zero : (t : Bool) (x : S) → x ≡ K.zero → cond t x K.zero ≡ K.zero
  pick_zero true x e = e
  pick_zero false x e = refl

  on_line_box : (f : Picture S) (d : Direction) (b : ℤ) (first last low : ℕ) → Box K f first last low → Box K (on_line f d b) first last low
  on_line_box f d b first last low box =
      record {
        before = λ k l h. pick_zero (equal (line d k l) b) (f k l) (box.before k l h);
        after = λ k l h. pick_zero (equal (line d k l) b) (f k l) (box.after k l h);
        above = λ k l h. pick_zero (equal (line d k l) b) (f k l) (box.above k l h);
        beneath = λ k l h. pick_zero (equal (line d k l) b) (f k l) (box.beneath k l h);
      }

  module _ (P Q : ℕ) where
    -- the sum over the tile
    abbrev whole : Picture S → S
    whole f = sum_below K Q (λ l. sum_below K P (λ k. f (pos k) (pos l)))

    abbrev line_sum : Picture S → Direction → ℤ → S
    line_sum f d b = whole (on_line f d b)

    -- all sums of d are zero
    abbrev pub Empty : Picture S → Direction → Type 0
    Empty f d = (b : ℤ) → line_sum f d b ≡ K.zero

    whole_same : (f g : Picture S) → ((k l : ℤ) → f k l ≡ g k l) → whole f ≡ whole g
    whole_same f g h =
        sum_same K Q (λ l. sum_below K P (λ k. f (pos k) (pos l))) (λ l. sum_below K P (λ k. g (pos k) (pos l)))
        (λ l _. sum_same K P (λ k. f (pos k) (pos l)) (λ k. g (pos k) (pos l)) (λ k _. h (pos k) (pos l)))

    whole_minus : (f g : Picture S) → whole (λ k l. minus K (f k l) (g k l)) ≡ minus K (whole f) (whole g)
    whole_minus f g =
        sum_same K Q (λ l. sum_below K P (λ k. minus K (f (pos k) (pos l)) (g (pos k) (pos l))))
        (λ l. minus K (sum_below K P (λ k. f (pos k) (pos l))) (sum_below K P (λ k. g (pos k) (pos l))))
        (λ l _. sum_minus K P (λ k. f (pos k) (pos l)) (λ k. g (pos k) (pos l)))
        ∙ sum_minus K Q (λ l. sum_below K P (λ k. f (pos k) (pos l))) (λ l. sum_below K P (λ k. g (pos k) (pos l)))

    -- A picture that moves inside the tile keeps its sum.
    whole_shift : (p q : ℤ) (f : Picture S) (first last low : ℕ) → Fits K P Q p q first last low → Box K f first last low
        → whole (λ k l. f (k -ℤ p) (l -ℤ q)) ≡ whole f
    whole_shift p q f first last low fits box =
        let down = fits.downward in
        sum_same K Q (λ l. sum_below K P (λ k. f (pos k -ℤ p) (pos l -ℤ q))) (λ l. row (pos l -ℤ q)) (λ l _. across (pos l -ℤ q))
        ∙ sum_shift K Q q row (λ l h. row_zero l (λ k. box.above k l h)) (λ l h. row_zero l (λ k. box.beneath k l (omega (arith, ints, fits.at_bottom))))
        (λ l h. row_zero l (λ k. box.above k l (omega (arith, ints)))) (λ l h. row_zero l (λ k. box.beneath k l (omega (arith, ints, fits.at_bottom))))
        (omega (arith, ints)) (omega (arith, ints, fits.at_bottom))
      where
        row : ℤ → S
        row l = sum_below K P (λ k. f (pos k) l)

        row_zero : (l : ℤ) → ((k : ℤ) → f k l ≡ K.zero) → row l ≡ K.zero
        row_zero l h = sum_zero K P (λ k. f (pos k) l) (λ k _. h (pos k))

        across : (l : ℤ) → sum_below K P (λ k. f (pos k -ℤ p) l) ≡ row l
        across l =
            let e = parts p in
            sum_shift K P p (λ k. f k l) (λ k h. box.before k l (omega (arith, ints))) (λ k h. box.after k l (omega (arith, ints, fits.at_right)))
            (λ k h. box.before k l (omega (arith, ints, fits.at_left))) (λ k h. box.after k l (omega (arith, ints, fits.at_right)))
            (omega (arith, ints, fits)) (omega (arith, ints, fits))

    module _ (e : Direction) (f : Picture S) (first last low : ℕ) (fits : Fits K P Q e.p e.q first last low) (box : Box K f first last low) where
      line_step : (d : Direction) (b : ℤ) → line_sum (step K P Q e f) d b ≡ minus K (line_sum f d b) (line_sum f d (b -ℤ growth d e))
      line_step d b =
          whole_same (on_line (step K P Q e f) d b) (λ k l. minus K (on_line f d b k l) (on_line f d (b -ℤ growth d e) (k -ℤ e.p) (l -ℤ e.q))) same
          ∙ whole_minus (on_line f d b) (λ k l. on_line f d (b -ℤ growth d e) (k -ℤ e.p) (l -ℤ e.q))
          ∙ ap (minus K (line_sum f d b))
          (whole_shift e.p e.q (on_line f d (b -ℤ growth d e)) first last low fits (on_line_box f d (b -ℤ growth d e) first last low box))
        where
          same_line : (k l : ℤ) → equal (line d (k -ℤ e.p) (l -ℤ e.q)) (b -ℤ growth d e) ≡ equal (line d k l) b
          same_line k l = ap (λ (z : ℤ). equal z (b -ℤ growth d e)) (line_shift d e k l) ∙ equal_shift (line d k l) b (growth d e)

          same : (k l : ℤ) → on_line (step K P Q e f) d b k l ≡ minus K (on_line f d b k l) (on_line f d (b -ℤ growth d e) (k -ℤ e.p) (l -ℤ e.q))
          same k l =
              ap (λ (s : S). cond (equal (line d k l) b) s K.zero) (step_is K P Q e f first last low fits box k l)
              ∙ pick_minus (equal (line d k l) b) (f k l) (f (k -ℤ e.p) (l -ℤ e.q))
              ∙ ap (λ (t : Bool). minus K (on_line f d b k l) (cond t (f (k -ℤ e.p) (l -ℤ e.q)) K.zero)) (sym (same_line k l))

      empty_now : Empty (step K P Q e f) e
      empty_now b = line_step e b ∙ ap (λ (z : ℤ). minus K (line_sum f e b) (line_sum f e z)) (no_growth e b) ∙ K.laws.cancel (line_sum f e b)

      empty_next : (d : Direction) → Empty f d → Empty (step K P Q e f) d
      empty_next d h b = line_step d b ∙ minus_zeros K (line_sum f d b) (line_sum f d (b -ℤ growth d e)) (h b) (h (b -ℤ growth d e))

    empty_still : (ds : List Direction) (f : Picture S) → Room K P Q ds f → (d : Direction) → Empty f d → Empty (steps K P Q ds f) d
    empty_still [] f room d h = h
    empty_still (e ∷ ds) f room d h =
        empty_still ds (step K P Q e f) (room_step K P Q e ds f room) d
        (empty_next e f room.first room.last room.low (room_fits K P Q e ds f room) room.box d h)

    pub all_empty : (ds : List Direction) (f : Picture S) → Room K P Q ds f → AllByRecursion (Empty (steps K P Q ds f)) ds
    all_empty [] f room = tt
    all_empty (e ∷ ds) f room = (
      empty_still ds (step K P Q e f) (room_step K P Q e ds f room) e
          (empty_now e f room.first room.last room.low (room_fits K P Q e ds f room) room.box),
      all_empty ds (step K P Q e f) (room_step K P Q e ds f room),
    )

    pub tile_at : (f : Picture S) (c : ℕ) → c < P * Q → get_or (tile_of K P Q f) c K.zero ≡ cell_of P f c
    tile_at f c h = get_or-map-range_with_len (cell_of P f) 0 (P * Q) c c K.zero h (omega arith)

    -- The bins of the tile are the lines of the picture.
    pub tile_sum : (f : Picture S) (d : Direction) (b : ℤ) → raw_sum K P Q (tile_of K P Q f) d b ≡ line_sum f d b
    tile_sum f d b =
        sum_rows K P Q in_cell
        ∙ sum_same K Q (λ l. sum_below K P (λ k. in_cell (l * P + k))) (λ l. sum_below K P (λ k. on_line f d b (pos k) (pos l)))
        (λ l h'. sum_same K P (λ k. in_cell (l * P + k)) (λ k. on_line f d b (pos k) (pos l)) (λ k h. at k l h h'))
      where
        in_cell : ℕ → S
        in_cell = sample_at K P (tile_of K P Q f) d b

        at : (k l : ℕ) → k < P → l < Q → in_cell (l * P + k) ≡ on_line f d b (pos k) (pos l)
        at k l h h' =
            ap (λ (s : S). cond (equal (raw d ((l * P + k) % P) ((l * P + k) / P)) b) s K.zero) (tile_at f (l * P + k) (cell_below P Q k l h h'))
            ∙ at_cell P Q (λ i j. on_line f d b (pos i) (pos j) ≡ on_line f d b (pos k) (pos l)) k l h refl
