-- What code that is lent the tables passes on.
use Rattle.std.proofs.Common.{◌≡◌, ℕ, ◌+◌, ◌-◌, ◌<◌, ◌≤◌, Bool, true, false, cond, ◌&&◌, ◌⊎◌, eqb, ltb, leb, List, length, get_or, Some, None, Option, Ok, Err, inl, inr, refl, sym, ap, ◌∙◌, subst, ⊎_elim, arith}
use Rattle.std.proofs.lemmas.Bool.{and_parts, eqb-true, le-ltb}
use Rattle.samples.specs.declared.kind.Kind.{Ghosts as Operations}
use Rattle.mojette.specs.declared.fault.Fault.{Fault}
use Rattle.mojette.specs.Meaning.{Shape, pixels_of, bins_of}
use Rattle.katz.proofs.Pixels.{cell_below}
use Rattle.peeling.specs.declared.state.State.{State}
use Rattle.peeling.specs.Counting.{number, least}
use Rattle.peeling.specs.Steps.{World, with_state, Taken, none_waits, bad_cell, grants, take_answers, taken, spent, peeled}
use Rattle.peeling.proofs.Counts.{least_some, least_passes}
use Rattle.plan.specs.declared.plan.Plan.{Plan}
use Rattle.plan.specs.Shapes.{shape}
use Rattle.law.specs.Life.{LongEnough}
use Rattle.law.specs.Positions.{incidence}
use Rattle.law.specs.Steps.{tables_of, short_queue, take}
use Rattle.law.specs.Turns.{turn, turns}
use Rattle.law.proofs.Turning.{turn_is, turn_none, at_rest}
use Rattle.walk.specs.declared.pixel.Pixel.{Pixel}
use Rattle.walk.specs.Finding.{OfTile, pixel_in, alone, missing_at, lone}
use Rattle.notes.specs.declared.tally.Tally.{Ghosts as Telling}
use Rattle.tile.specs.declared.lent.Tables.{Tables as Lent}
use Rattle.tile.specs.Ring.{Fronts}
use Rattle.tile.specs.Worlds.{IsStillLent, contents, told}

-- What is lent stays long enough.
pub long_on : {S : Type 0} (plan : Plan) (a b : Lent S) → IsStillLent a b → LongEnough (shape plan) (contents a) → LongEnough (shape plan) (contents b)
long_on plan a b lent long = record {
  picture = omega (arith, lent.picture_size, long.picture);
  marks = omega (arith, lent.marks_size, long.marks);
  sums = omega (arith, lent.sums_size, long.sums);
  counts = omega (arith, lent.counts_size, long.counts);
  queue = omega (arith, lent.queue_size, long.queue);
}

-- the cell of a pixel of the tile
pub cell_inside : (plan : Plan) (x : Pixel) → OfTile (shape plan).P (shape plan).Q x → x.cell < pixels_of (shape plan)
cell_inside plan x of = subst (λ n. n < pixels_of (shape plan)) (sym of.cell) (cell_below (shape plan).P (shape plan).Q x.column x.row of.column of.row)

-- So are the tables with the counts that a tally stands for.
pub told_long : {S X : Type 0} (T : Telling X) (plan : Plan) (x : X) (t : Lent S) → LongEnough (shape plan) (contents t) → LongEnough (shape plan) (told T (shape plan) x t)
told_long T plan x t long = record {
  picture = long.picture;
  marks = long.marks;
  sums = long.sums;
  counts = subst (λ n. bins_of (shape plan) ≤ n) (sym (T.as_long (shape plan) x t.counts.now)) long.counts;
  queue = long.queue;
}

-- the mark of a lone pixel says that it is missing
cell_or : Option Pixel → ℕ
cell_or (Some x) = x.cell
cell_or None = 0

pub lone_missing : (s : Shape) (marks : List ℕ) (at : ℕ) (x : Pixel) → Some x ≡ lone s marks at → eqb (get_or marks x.cell 0) 0 ≡ true
unfolding cell_or
lone_missing s marks at x e = go (ltb at (bins_of s) && leb (pixels_of s) (length marks)) e
  where
    of_one : (b : Bool) → eqb (number (pixels_of s) (missing_at s marks at)) 1 ≡ b → Some x ≡ cond b (Some (pixel_in s.P (least (pixels_of s) (missing_at s marks at)))) None →
        eqb (get_or marks x.cell 0) 0 ≡ true
    of_one true one is =
        let here = least_some (pixels_of s) (missing_at s marks at) (omega (arith, eqb-true _ 1 one)) in
        ap (λ n. eqb (get_or marks n 0) 0) (ap cell_or is) ∙ (and_parts _ _ (least_passes (pixels_of s) (missing_at s marks at) here)).1
    of_one false one is = absurd cc

    go : (b : Bool) → Some x ≡ cond b (alone s.P s.Q (missing_at s marks at)) None → eqb (get_or marks x.cell 0) 0 ≡ true
    go true is = of_one (eqb (number (pixels_of s) (missing_at s marks at)) 1) refl is
    go false is = absurd cc

-- A turn ----------------------------------------------------------------------------------------------------------

-- why no position is taken
refuses : (a : Taken) (bins : ℕ) (e : Fault) → Fronts a bins (Err e) → (a ≡ none_waits) ⊎ ((i : ℕ) × (a ≡ bad_cell i))
refuses none_waits bins e h = inl refl
refuses (bad_cell i) bins e h = inr (i, refl)
refuses (grants b) bins e h = absurd cc

module _ {S : Type 0} (K : Operations S) (s : Shape) (w : World S) (long : LongEnough s (tables_of w)) where
  turn_bad : (i : ℕ) → take_answers (bins_of s) w.state w.queue ≡ bad_cell i → turn K s w ≡ w
  unfolding turn take short_queue
  turn_bad i e =
      let fits : ltb (length w.queue) (bins_of s) ≡ false = le-ltb _ _ long.queue in
      rw (fits, e) refl

  -- where none can be taken, it changes nothing
  pub turn_rests : (e : Fault) → Fronts (take_answers (bins_of s) w.state w.queue) (bins_of s) (Err e) → turn K s w ≡ w
  turn_rests e h = ⊎_elim (λ none. turn_none K s w long none) (λ bad. turn_bad bad.0 bad.1) (refuses (take_answers (bins_of s) w.state w.queue) (bins_of s) e h)

  -- else the position is taken, and settled
  pub turn_goes : (b : ℕ) → Fronts (take_answers (bins_of s) w.state w.queue) (bins_of s) (Ok b) → (x z : State) → x ≡ taken (bins_of s) w.state →
      (v : World S) → v ≡ peeled K (incidence s) b (with_state x w) → z ≡ spent v.state → with_state z v ≡ turn K s w
  turn_goes b h x z x_is v v_is z_is =
      ap (λ q. with_state q v) z_is
      ∙ ap (λ u. with_state (spent u.state) u) (v_is ∙ ap (λ q. peeled K (incidence s) b (with_state q w)) x_is)
      ∙ sym (turn_is K s w long b h.0 h.1)

-- The turn after n others that changes nothing is the last that is made.
pub stops : {S : Type 0} (K : Operations S) (s : Shape) (n k : ℕ) (w u v : World S) → u ≡ turns K s n w → v ≡ turn K s u → v ≡ u → n ≤ k → v ≡ turns K s k w
stops K s n k w u v u_is v_is same few =
    let still : turn K s (turns K s n w) ≡ turns K s n w = ap (turn K s) (sym u_is) ∙ sym v_is ∙ same ∙ u_is in
    let all : (k - n) + n ≡ k = omega arith in
    same ∙ u_is ∙ sym (at_rest K s w n (k - n) still) ∙ ap (λ m. turns K s m w) all
