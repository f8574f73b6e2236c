use Rattle.std.proofs.Common.{◌≡◌, ◌+◌, ◌<◌, ◌≤◌, ◌⊎◌, get_or, Some, None, sym, ap, ◌∙◌, subst, inl, inr, arith}
use Rattle.std.proofs.lemmas.Bool.{eq-eqb, ne_eqb}
use Rattle.walk.specs.declared.pixel.Pixel.{Pixel}
use Rattle.walk.proofs.Cells.{open_at, inside, found}
use Rattle.walk.proofs.Walks.{After, turn_first, turn_stops, turn_on, turn_goes_on, turn_ends, still_on}
use Rattle.walk.proofs.line.Line.lone.Goals as goal
use Rattle.walk.proofs.line.Line.lone.Goals.{Joined-marks-pixel-eq0, then-marks-pixel-eq0+else-is_some, else-marks-pixel-eq0, then-x-self-via-then-x-self, then-x-self-via-else-x-self+then-y-self}

pub returns-in_err-x-clause-is : goal.returns-in_err-x-clause-is
returns-in_err-x-clause-is c = c.from_residual.ensures ∙ (found c.args.self c.args.marks.now None (λ w alone. c.in_err-x.ensures alone.u alone.v alone.here.on)).is

pub bounds-marks-pixel : goal.bounds-marks-pixel
bounds-marks-pixel c =
    let h = inside c.args.self c.args.marks.now c.loop-lone.x c.loop-lone.y c.loop-lone.invariant.on in
    omega (arith, ap (λ (w : Pixel). w.cell) c.pixel-pixel.ensures, c.requires)

pub returns-then-is_some : goal.returns-then-is_some
returns-then-is_some c =
    let l = c.args.self in
    let marks = c.args.marks.now in
    found l marks None
    (turn_stops l (open_at l marks) c.loop-lone.x c.loop-lone.y c.loop-lone.invariant.on c.loop-lone.lone (sym c.if-is_some.ensures) c.loop-lone.invariant.known
    (eq-eqb _ 0 (subst (λ (w : Pixel). get_or marks w.cell 0 ≡ 0) c.pixel-pixel.ensures c.if-marks-pixel-eq0.true)))

-- what is known after a turn
after : (c : Joined-marks-pixel-eq0) → After c.args.self (open_at c.args.self c.args.marks.now) c.if-marks-pixel-eq0.lone c.loop-lone.x c.loop-lone.y
after c =
    let l = c.args.self in
    let marks = c.args.marks.now in
    let x = c.loop-lone.x in
    let y = c.loop-lone.y in
    let pixel = c.pixel-pixel.ensures in
    let known = c.loop-lone.invariant in
    elim c.if-marks-pixel-eq0.branch [
      | then-marks-pixel-eq0+else-is_some w ↦
          subst (λ o. After l (open_at l marks) o x y) (ap Some (sym pixel) ∙ sym w.lone-is)
          (turn_first l (open_at l marks) x y known.on c.loop-lone.lone (sym w.if-is_some.ensures) known.known
          (eq-eqb _ 0 (subst (λ (z : Pixel). get_or marks z.cell 0 ≡ 0) pixel w.if-marks-pixel-eq0.true)))
      | else-marks-pixel-eq0 w ↦
          subst (λ o. After l (open_at l marks) o x y) (sym w.lone-is)
          (turn_on l (open_at l marks) x y known.on c.loop-lone.lone known.known
          (ne_eqb _ 0 (subst (λ (z : Pixel). get_or marks z.cell 0 ≡ 0 → ⊥) pixel w.if-marks-pixel-eq0.false)))
    ]

pub returns-then-x-self : goal.returns-then-x-self
returns-then-x-self c =
    let l = c.args.self in
    let marks = c.args.marks.now in
    let end : (c.loop-lone.x < l.place.slope) ⊎ (l.size.rows ≤ c.loop-lone.y + l.place.q) = elim c.then-x-self.branch [
      | then-x-self-via-then-x-self w ↦ inl w.if-x-self.true
      | then-x-self-via-else-x-self+then-y-self w ↦ inr w.if-y-self.true
    ] in
    found l marks c.if-marks-pixel-eq0.lone
    (turn_ends l (open_at l marks) c.loop-lone.x c.loop-lone.y c.loop-lone.invariant.on c.if-marks-pixel-eq0.lone end (after (goal.at.returns-then-x-self c).Joined-marks-pixel-eq0))

pub loop-lone-preserved : goal.loop-lone-preserved
loop-lone-preserved c =
    let l = c.args.self in
    let marks = c.args.marks.now in
    let on = c.loop-lone.invariant.on in record {
      on = still_on l (open_at l marks) c.loop-lone.x c.loop-lone.y on c.if-x-self.false c.if-y-self.false;
      known = turn_goes_on l (open_at l marks) c.loop-lone.x c.loop-lone.y on c.if-marks-pixel-eq0.lone c.if-x-self.false (after (goal.at.loop-lone-preserved c).Joined-marks-pixel-eq0);
    }
