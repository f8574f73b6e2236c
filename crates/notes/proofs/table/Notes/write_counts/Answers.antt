use Rattle.std.proofs.Common.{◌≡◌, ℕ, ◌<◌, ◌≤◌, List, length, take, get_or, set, refl, ap, ◌∙◌, subst, length-take-le, add-one, sym, arith, rules}
use Rattle.std.proofs.lemmas.List.{get_or-take, get_or_default}
use Rattle.mojette.specs.Bounds.{most_side}
use Rattle.peeling.specs.Steps.{filled}
use Rattle.notes.specs.declared.note.Note.{Note}
use Rattle.notes.specs.Words.{note_zero}
use Rattle.notes.specs.Notes.{pixels_noted}
use Rattle.notes.proofs.Most.{few}
use Rattle.notes.proofs.Telling.{told, few_told}
use Rattle.notes.proofs.table.Notes.write_counts.Goals as goal

-- the note that the loop reads
note_read : (n b : ℕ) (xs : List Note) (x : Note) → n ≤ length xs → b < length (take n xs) → x ≡ get_or (take n xs) b x → (b < n) × (x ≡ get_or xs b note_zero)
note_read n b xs x long l is =
    let below : b < n = omega (arith, length-take-le n xs long) in
    (below, is ∙ get_or-take n xs b x below ∙ get_or_default xs b x note_zero (omega arith))

pub shared_ref_as_front-note-items : goal.shared_ref_as_front-note-items
shared_ref_as_front-note-items c = omega (arith, c.total.ensures.value, few c.args.plan.now)

pub loop-b-init : goal.loop-b-init
unfolding filled
loop-b-init c = refl

pub overflow_cast-counts : goal.overflow_cast-counts
overflow_cast-counts c =
    let long : c.total.result ≤ length c.args.self.now.notes = omega (arith, c.total.ensures.value, few c.args.plan.now) in
    let r = note_read c.total.result c.loop-b.b c.args.self.now.notes c.note-item.result long c.loop-b-test.true c.note-item.is in
    let m : c.pixels.result ≤ most_side = subst (λ n. n ≤ most_side) (sym (c.pixels.ensures ∙ ap pixels_noted r.1))
    (few_told c.args.plan.now c.requires.noted.0 c.args.self.now.notes c.requires.noted.1 c.loop-b.b (omega (arith, r.0, c.total.ensures.value))) in
    search rules

pub loop-b-preserved : goal.loop-b-preserved
unfolding filled
loop-b-preserved c =
    let long : c.total.result ≤ length c.args.self.now.notes = omega (arith, c.total.ensures.value, few c.args.plan.now) in
    let r = note_read c.total.result c.loop-b.b c.args.self.now.notes c.note-item.result long c.loop-b-test.true c.note-item.is in
    (λ j. set (c.loop-b.invariant j) c.loop-b.b ((c.pixels.ensures ∙ ap pixels_noted r.1) j))
    ∙ ap (λ k. filled k (λ b. pixels_noted (get_or c.args.self.now.notes b note_zero)) c.args.counts.now) (sym (add-one c.loop-b.b))

pub returns : goal.returns
returns c =
    let long : c.total.result ≤ length c.args.self.now.notes = omega (arith, c.total.ensures.value, few c.args.plan.now) in
    let all : c.loop-b.b ≡ c.total.result = omega (arith, c.loop-b-test.false, c.loop-b.auto.b-end, length-take-le c.total.result c.args.self.now.notes long) in
    let is = c.loop-b.invariant ∙ ap (λ k. filled k (λ b. pixels_noted (get_or c.args.self.now.notes b note_zero)) c.args.counts.now) (all ∙ c.total.ensures.value) in
    let plan = c.args.plan.now in
    let notes = c.args.self.now.notes in
    record {
      counts = is;
      few = λ b l. omega (arith, ap (λ xs. get_or xs b 0) is, told plan notes c.args.counts.now c.requires.room b l, few_told plan c.requires.noted.0 notes c.requires.noted.1 b l);
    }
