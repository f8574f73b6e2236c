use Rattle.std.proofs.Common.{◌-◌, arith, rules}
use Rattle.plan.proofs.Taking.{step_of, row_begins, row_ends, rows_end, pixel_taken, stepped, walk_shows}
use Rattle.plan.proofs.ghosts.take_off.Goals as goal

pub loop-l-preserved : goal.loop-l-preserved
loop-l-preserved g c =
    let P = c.args.size.columns in
    let Q = c.args.size.rows in
    let l = c.loop-l.l - 1 in
    let old = c.args.picture.now in
    let q = c.args.place.q in
    let span = c.span-first.result in
    λ f s.
    row_ends g.K.Kind P Q f old c.loop-k.picture q span.first span.last span.back s l c.loop-k.k (omega arith) c.loop-k-test.false (omega arith)
    (c.loop-k.invariant f old s
    (row_begins g.K.Kind P Q f old c.loop-l.picture q span.first span.last span.back s l c.loop-l.l (omega arith) (omega arith) (c.loop-l.invariant f s)))

pub overflow_sub-from : goal.overflow_sub-from
overflow_sub-from g c =
    let span = c.span-first.result in
    let e = c.span-first.ensures in
    let s = step_of g.K.Kind c.args.size.columns c.args.size.rows c.args.place span.first span.last span.back c.args.picture.now e.first e.last e.back c.requires.direction c.requires.narrow in
    omega (arith, s.earlier (c.loop-k.k - 1) (c.loop-l.l - 1) (omega arith) (omega arith), c.cell_of-cell.ensures.value)

pub loop-k-preserved : goal.loop-k-preserved
loop-k-preserved g c =
    let span = c.span-first.result in
    λ f old s walk.
    pixel_taken g.K.Kind c.args.size.columns c.args.size.rows f old c.loop-k.picture c.args.place.q span.first span.last span.back s
    (c.loop-k.k - 1) (c.loop-l.l - 1) c.loop-k.k c.cell_of-cell.result _ _ _ (omega arith) (omega arith) (omega arith) (omega arith) (omega arith) (omega arith)
    c.cell_of-cell.ensures.value c.index-picture-cell.is c.index-picture-from.is (search rules) (c.loop-k.invariant f old s walk)

pub returns : goal.returns
returns g c =
    let K = g.K.Kind in
    let P = c.args.size.columns in
    let Q = c.args.size.rows in
    let x = c.args.place in
    let old = c.args.picture.now in
    let span = c.span-first.result in
    let e = c.span-first.ensures in
    let s = step_of K P Q x span.first span.last span.back old e.first e.last e.back c.requires.direction c.requires.narrow in
    let walk = rows_end K P Q (stepped K P Q x old) old c.loop-l.picture x.q span.first span.last span.back s c.loop-l.l c.loop-l-test.false (omega arith) (c.loop-l.invariant (stepped K P Q x old) s) in
    record { shows = walk_shows K P Q x old c.loop-l.picture walk; others = walk.others }
