-- A turn on tables that are long enough, past the checks of its calls.
use Rattle.std.proofs.Common.{◌≡◌, ℕ, zero, suc, ◌+◌, ◌<◌, false, leb, refl, ap, ◌∙◌, arith}
use Rattle.std.proofs.lemmas.Bool.{cond-false, lt-leb, le-ltb}
use Rattle.samples.specs.declared.kind.Kind.{Ghosts as Operations}
use Rattle.mojette.specs.Meaning.{Shape, bins_of}
use Rattle.peeling.specs.Steps.{World, take_answers, none_waits, grants}
use Rattle.peeling.specs.Steps.{take as peel_take, settle as peel_settle}
use Rattle.law.specs.Positions.{incidence}
use Rattle.law.specs.Steps.{tables_of, short_queue, take, settle}
use Rattle.law.specs.Life.{LongEnough}
use Rattle.law.specs.Turns.{turn, turns}
use Rattle.law.proofs.Sealing.{none_short}

module _ {S : Type 0} (K : Operations S) (shape : Shape) (w : World S) (long : LongEnough shape (tables_of w)) where
  queue_fits : short_queue shape (tables_of w) ≡ 0
  unfolding short_queue
  queue_fits = cond-false _ 5 0 (le-ltb _ _ long.queue)

  pub turn_none : take_answers (bins_of shape) w.state w.queue ≡ none_waits → turn K shape w ≡ w
  unfolding turn take
  turn_none e = rw (queue_fits, e) refl

  pub turn_is : (b : ℕ) → take_answers (bins_of shape) w.state w.queue ≡ grants b → b < bins_of shape →
      turn K shape w ≡ peel_settle K (incidence shape) b (peel_take K (incidence shape) w)
  unfolding turn take settle
  turn_is b e l =
      let inside : leb (bins_of shape) b ≡ false = lt-leb _ _ l in
      rw (queue_fits, e, none_short shape (tables_of w) long, inside) refl

-- A turn that changes nothing is the last that does.
pub at_rest : {S : Type 0} (K : Operations S) (s : Shape) (w : World S) (n k : ℕ) → turn K s (turns K s n w) ≡ turns K s n w → turns K s (k + n) w ≡ turns K s n w
at_rest K s w n zero still = ap (λ j. turns K s j w) (omega arith)
at_rest K s w n (suc k) still =
    let one : suc k + n ≡ suc (k + n) = omega arith in
    ap (λ j. turns K s j w) one ∙ ap (turn K s) (at_rest K s w n k still) ∙ still
