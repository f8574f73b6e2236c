use Rattle.std.proofs.Common.{◌<◌, length, sym, subst, arith}
use Rattle.plan.specs.Shapes.{shape}
use Rattle.notes.specs.Missing.{by_marks}
use Rattle.notes.proofs.Found.{missed_by_marks, found_by_marks}
use Rattle.tile.proofs.Following.{lone_missing, cell_inside}
use Rattle.tile.proofs.peel.peel_bin.Goals as goal

pub take_off_all-requires-clause-knows : goal.take_off_all-requires-clause-knows
take_off_all-requires-clause-knows g c =
    let s = shape c.args.plan.now in
    let marks = c.args.tables.now.marks.now in
    (by_marks s marks, c.requires.knows, missed_by_marks s marks c.in_ok-pixel.pixel.cell (lone_missing s marks c.args.at c.in_ok-pixel.pixel c.in_ok-pixel.ensures.is))

pub returns-clause-knows : goal.returns-clause-knows
returns-clause-knows g c =
    let s = shape c.args.plan.now in
    let marks = c.args.tables.now.marks.now in
    let cell = c.in_ok-pixel.pixel.cell in
    let inside : cell < length marks = omega (arith, cell_inside c.args.plan.now c.in_ok-pixel.pixel c.in_ok-pixel.ensures.pixel, c.requires.long.marks) in
    subst (λ xs. g.T.Tally.knows s (by_marks s xs) c.take_off_all.new.tally) (sym c.take_off_all.ensures.marks)
    (g.T.Tally.alike s _ _ c.take_off_all.new.tally (found_by_marks s marks cell inside)
    (c.take_off_all.ensures.knows (by_marks s marks) c.requires.knows (missed_by_marks s marks cell (lone_missing s marks c.args.at c.in_ok-pixel.pixel c.in_ok-pixel.ensures.is))))
