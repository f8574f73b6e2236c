-- Setting up the peeling.
use Rattle.std.proofs.Common.{◌≡◌, ℕ, zero, suc, Bool, true, false, cond, eqb, List, get_or, refl, ap, ◌∙◌}
use Rattle.samples.specs.declared.kind.Kind.{Ghosts as Operations}
use Rattle.mojette.specs.Meaning.{Shape, pixels_of, bins_of}
use Rattle.peeling.specs.declared.state.State.{State}
use Rattle.peeling.specs.Steps.{World, world, filled, append, queue_singles, zeroed, seal}
use Rattle.law.specs.Positions.{incidence}
use Rattle.law.specs.Steps.{Tables, world_of, blank}
use Rattle.walk.specs.Counts.{counted}
use Rattle.tile.specs.Seals.{unpeeled, with_position, singles_queued}

-- queueing looks at the counts alone
module _ {S : Type 0} (T : ℕ) (p : List S) (m : List ℕ) (sums : List S) (counts : List ℕ) (s : State) (queue : List ℕ) where
  abbrev of : State × List ℕ → World S
  of r = world r.0 p m sums counts r.1

  abbrev so_far : ℕ → State × List ℕ
  so_far k = singles_queued T k counts (s, queue)

  pub queues : (k : ℕ) → of (so_far k) ≡ queue_singles T k (world s p m sums counts queue)
  unfolding singles_queued queue_singles append
  queues zero = refl
  queues (suc k) = by (eqb (get_or counts k 0) 1) ∙ ap (λ w. cond (eqb (get_or w.counts k 0) 1) (append T k w) w) (queues k)
    where
      by : (t : Bool) → of (cond t (with_position T k (so_far k)) (so_far k)) ≡ cond t (append T k (of (so_far k))) (of (so_far k))
      by true = refl
      by false = refl

-- What is set up is an accepted seal.
pub begun : {S : Type 0} (K : Operations S) (s : Shape) (y : Tables S) (x : State) (queue : List ℕ) (picture : List S) (marks counts : List ℕ) →
    (x, queue) ≡ singles_queued (bins_of s) (bins_of s) counts (unpeeled s, y.queue) → picture ≡ filled (pixels_of s) (λ _. K.zero) y.picture →
    marks ≡ filled (pixels_of s) (λ _. 0) y.marks → counts ≡ counted s y.counts → world x picture marks y.sums counts queue ≡ seal K (incidence s) (world_of blank y)
unfolding seal zeroed
begun K s y x queue picture marks counts q p m n =
    (λ j. world (q j).0 (p j) (m j) y.sums counts (q j).1)
    ∙ queues (bins_of s) (filled (pixels_of s) (λ _. K.zero) y.picture) (filled (pixels_of s) (λ _. 0) y.marks) y.sums counts (unpeeled s) y.queue (bins_of s)
    ∙ ap (λ z. queue_singles (bins_of s) (bins_of s) (world (unpeeled s) (filled (pixels_of s) (λ _. K.zero) y.picture) (filled (pixels_of s) (λ _. 0) y.marks) y.sums z y.queue)) n
