use Rattle.std.proofs.Common.{◌≡◌, ◌*◌, ◌≤◌, ◌++◌, length, drop, sym, ap, ◌∙◌, subst, arith}
use Rattle.std.proofs.Math.Seq.{drop-append_seam}
use Rattle.std.proofs.lemmas.List.{get_or_append_left, length-append, length-drop, length-take}
use Rattle.mojette.specs.declared.direction.Direction.{Direction}
use Rattle.mojette.specs.Bins.{bins}
use Rattle.plan.specs.Laid.{direction_of}
use Rattle.plan.specs.Sums.{SumUpTo}
use Rattle.plan.proofs.Adding.{none_added, all_added}
use Rattle.mojette.specs.Bounds.{most_step}
use Rattle.mojette.proofs.Bounds.{steps_most}
use Rattle.plan.proofs.Cells.{laid_direction}
use Rattle.plan.proofs.project.write_sums.Goals as goal

pub add_up_by_step-requires : goal.add_up_by_step-requires
add_up_by_step-requires g c =
    let P = c.args.size.columns in
    let Q = c.args.size.rows in
    let laid = c.lay-place.ensures in
    let d : direction_of c.lay-place.result ≡ c.args.direction = ap direction_of laid ∙ laid_direction P Q (record { direction = c.args.direction; cause = 0 }) 0 c.requires.direction in
    let few = steps_most c.args.direction c.requires.direction in
    let n = c.lay-place.result.bins in
    let sums = c.args.sums.now in
    let size : n ≡ bins P Q (direction_of c.lay-place.result) = ap (λ x. x.bins) laid ∙ ap (bins P Q) (sym d) in
    let long : length c.clear.new.cells ≡ n = omega (arith, c.clear.auto.cells, length-take n sums, c.requires.room.1, ap (bins P Q) d) in
    record {
      small = (subst (λ n. n ≤ most_step) (sym (ap (λ x. x.slope) laid)) few.0, subst (λ n. n ≤ most_step) (sym (ap (λ x. x.q) laid)) few.1);
      room = (c.requires.room.0, omega (arith, c.requires.room.1, ap (bins P Q) d, length-append c.clear.new.cells (drop n sums), length-drop n sums, long));
      clear = none_added g.K.Kind P Q (direction_of c.lay-place.result) _ _
          (λ b h. get_or_append_left c.clear.new.cells (drop n sums) g.K.Kind.zero b (omega arith) ∙ c.clear.ensures b);
    }

pub returns : goal.returns
returns g c =
    let P = c.args.size.columns in
    let Q = c.args.size.rows in
    let laid = c.lay-place.ensures in
    let d : direction_of c.lay-place.result ≡ c.args.direction = ap direction_of laid ∙ laid_direction P Q (record { direction = c.args.direction; cause = 0 }) 0 c.requires.direction in
    let n = c.lay-place.result.bins in
    let sums = c.args.sums.now in
    let size : n ≡ bins P Q c.args.direction = ap (λ x. x.bins) laid in
    let long : length c.clear.new.cells ≡ n = omega (arith, c.clear.auto.cells, length-take n sums, c.requires.room.1, size) in
    let others : drop (bins P Q c.args.direction) c.add_up_by_step.new.sums ≡ drop (bins P Q c.args.direction) c.args.sums.now =
    subst (λ (e : Direction). drop (bins P Q e) c.add_up_by_step.new.sums ≡ drop (bins P Q e) (c.clear.new.cells ++ drop n sums)) d c.add_up_by_step.ensures.others
    ∙ (λ i. drop (sym (long ∙ size) i) (c.clear.new.cells ++ drop n sums)) ∙ drop-append_seam c.clear.new.cells (drop n sums) ∙ ap (λ m. drop m sums) size in
    all_added g.K.Kind P Q c.args.direction c.args.picture.now c.args.sums.now c.add_up_by_step.new.sums
    (omega (arith, c.requires.room.1, length-append c.clear.new.cells (drop n sums), length-drop n sums, long, size, c.add_up_by_step.auto.sums))
    (subst (λ (e : Direction). SumUpTo g.K.Kind P Q e c.args.picture.now (P * Q) c.add_up_by_step.new.sums) d c.add_up_by_step.ensures.sums)
    others
