use Rattle.std.proofs.Common.{◌+◌, ◌<◌, length, sym, refl, ap, ◌∙◌, subst, arith, ◌==◌}
use Rattle.std.proofs.lemmas.Bool.{eqb-true}
use Rattle.mojette.specs.Meaning.{bins_of}
use Rattle.peeling.specs.Steps.{take_off_all}
use Rattle.plan.specs.Shapes.{shape}
use Rattle.law.specs.Positions.{incidence}
use Rattle.law.specs.Steps.{world_of}
use Rattle.walk.specs.Lying.{starts}
use Rattle.walk.proofs.Laying.{turn, all_starts}
use Rattle.notes.specs.Missing.{found_below}
use Rattle.notes.proofs.Found.{found_none, found_all, still_there, found_lost, found_next}
use Rattle.tile.specs.Worlds.{IsStillLent, told}
use Rattle.tile.proofs.Following.{long_on, cell_inside}
use Rattle.tile.proofs.Keeping.{same_tables, lent_on}
use Rattle.tile.proofs.Turns.{lies_here, whole_turn, lost_turn, none_lies, next_start}
use Rattle.tile.proofs.peel.take_off_all.Goals as goal
use Rattle.tile.proofs.peel.take_off_all.Goals.{then-is_whole, else-is_whole}

pub loop-i-init : goal.loop-i-init
unfolding take_off_all
loop-i-init g c = record {
  lent = same_tables c.args.tables.now;
  marks = refl;
  world = refl;
  knows = λ m known misses. g.T.Tally.alike (shape c.args.plan.now) _ _ _ (found_none (shape c.args.plan.now) m c.args.pixel.cell) known;
}

pub overflow_add-at : goal.overflow_add-at
overflow_add-at g c =
    let plan = c.args.plan.now in
    let t = turn plan c.places-places.result.now c.loop-i.i c.places-places.ensures.value c.loop-i-test.true in
    let lies = lies_here plan c.places-places.result.now c.loop-i.i c.args.pixel c.start.result c.bin_of.result c.columns-columns.result c.rows-rows.result t
    c.columns-columns.ensures c.rows-rows.ensures c.requires.pixel c.start.ensures.value c.bin_of.ensures.lies in
    omega (arith, lies.below, t.next, t.inside, plan.few_bins)

pub take_off-requires : goal.take_off-requires
take_off-requires g c =
    let plan = c.args.plan.now in
    let t = turn plan c.places-places.result.now c.loop-i.i c.places-places.ensures.value c.loop-i-test.true in
    let at = c.start.result + c.bin_of.result in
    let lies = lies_here plan c.places-places.result.now c.loop-i.i c.args.pixel c.start.result c.bin_of.result c.columns-columns.result c.rows-rows.result t
    c.columns-columns.ensures c.rows-rows.ensures c.requires.pixel c.start.ensures.value c.bin_of.ensures.lies in
    let inside : at < bins_of (shape plan) = omega (arith, lies.below, t.next, t.inside, plan.full) in
    record {
      at = inside;
      cell = cell_inside plan c.args.pixel c.requires.pixel;
      long = long_on plan c.args.tables.now c.loop-i.tables c.loop-i.invariant.lent c.requires.long;
      knows = (
        _,
        c.loop-i.invariant.knows c.requires.knows.0 c.requires.knows.1 c.requires.knows.2,
        still_there (shape plan) c.requires.knows.0 c.args.pixel.cell c.requires.knows.2 at (starts plan c.loop-i.i) inside lies.from
            (lies.there (sym (ap (λ x. x.cause) t.same) ∙ eqb-true _ 0 (sym c.is_whole.ensures ∙ c.if-is_whole.true))),
      );
    }

pub loop-i-preserved : goal.loop-i-preserved
loop-i-preserved g c =
    let K = g.K.Kind in
    let T = g.T.Tally in
    let plan = c.args.plan.now in
    let s = shape plan in
    let i = c.loop-i.i in
    let cell = c.args.pixel.cell in
    let v = c.args.v in
    let t = turn plan c.places-places.result.now i c.places-places.ensures.value c.loop-i-test.true in
    let first = world_of c.args.state.now (told T s c.args.tally.now c.args.tables.now) in
    let before = world_of c.loop-i.state (told T s c.loop-i.tally c.loop-i.tables) in
    let after = world_of c.if-is_whole.state (told T s c.if-is_whole.tally c.if-is_whole.tables) in
    elim c.if-is_whole.branch [
      | then-is_whole w ↦
          let at = w.start.result + w.bin_of.result in
          let lies = lies_here plan c.places-places.result.now i c.args.pixel w.start.result w.bin_of.result c.columns-columns.result c.rows-rows.result t
          c.columns-columns.ensures c.rows-rows.ensures c.requires.pixel w.start.ensures.value w.bin_of.ensures.lies in
          let inside : at < bins_of s = omega (arith, lies.below, t.next, t.inside, plan.full) in
          let here = sym (ap (λ x. x.cause) t.same) ∙ eqb-true _ 0 (sym c.is_whole.ensures ∙ w.if-is_whole.true) in
          let last = w.take_off.new in record {
            lent = lent_on c.loop-i.invariant.lent (subst (λ x. IsStillLent c.loop-i.tables x) (sym w.tables-is) w.take_off.ensures.lent);
            marks = ap (λ x. x.marks.now) w.tables-is ∙ w.take_off.ensures.marks ∙ c.loop-i.invariant.marks;
            world = whole_turn K plan cell v first i t.known before after c.loop-i.invariant.world at lies here
                (world_of last.state (told T s last.tally last.tables)) w.take_off.ensures.world
                (λ j. world_of (w.state-is j) (told T s (w.tally-is j) (w.tables-is j)));
            knows = λ m known misses.
                subst (λ x. T.knows s (found_below (starts plan (i + 1)) cell m) x) (sym w.tally-is)
                (T.alike s _ _ _
                (found_next s m cell misses (starts plan i) (starts plan (i + 1)) (omega (arith, next_start plan i t.known)) at lies.from lies.below (λ b low high ne. lies.only b low high ne))
                (w.take_off.ensures.knows _ (c.loop-i.invariant.knows m known misses)
                (still_there s m cell misses at (starts plan i) inside lies.from (lies.there here))));
          }
      | else-is_whole w ↦
          let lost = sym (ap (λ x. x.cause == 0) t.same) ∙ sym c.is_whole.ensures ∙ w.if-is_whole.false in record {
            lent = subst (λ x. IsStillLent c.args.tables.now x) (sym w.tables-is) c.loop-i.invariant.lent;
            marks = ap (λ x. x.marks.now) w.tables-is ∙ c.loop-i.invariant.marks;
            world = lost_turn K plan cell v first i t.known before after c.loop-i.invariant.world lost
                (λ j. world_of (w.state-is j) (told T s (w.tally-is j) (w.tables-is j)));
            knows = λ m known misses.
                subst (λ x. T.knows s (found_below (starts plan (i + 1)) cell m) x) (sym w.tally-is)
                (T.alike s _ _ _
                (found_lost s m cell misses (starts plan i) (starts plan (i + 1)) (omega (arith, next_start plan i t.known)) (none_lies plan i t.known lost cell))
                (c.loop-i.invariant.knows m known misses));
          }
    ]

pub returns : goal.returns
returns g c =
    let plan = c.args.plan.now in
    let e = ap length c.places-places.ensures.value in
    let all = all_starts plan c.loop-i.i (omega (arith, c.loop-i.auto.i-end)) (omega (arith, c.loop-i-test.false)) in
    record {
      lent = c.loop-i.invariant.lent;
      marks = c.loop-i.invariant.marks;
      world = c.loop-i.invariant.world
          ∙ ap (λ n. take_off_all g.K.Kind (incidence (shape plan)) c.args.pixel.cell c.args.v n (world_of c.args.state.now (told g.T.Tally (shape plan) c.args.tally.now c.args.tables.now))) all;
      knows = λ m known misses. g.T.Tally.alike (shape plan) _ _ _ (found_all (shape plan) m c.args.pixel.cell)
          (subst (λ n. g.T.Tally.knows (shape plan) (found_below n c.args.pixel.cell m) c.loop-i.tally) all (c.loop-i.invariant.knows m known misses));
    }
