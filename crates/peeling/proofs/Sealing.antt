-- The invariant holds after an accepted seal.
use Rattle.std.proofs.Common.{◌≡◌, ℕ, ◌<◌, ◌≤◌, true, false, eqb, [], length, get_or, sym, refl, ap, ◌∙◌, subst, arith}
use Rattle.std.proofs.lemmas.Bool.{both_ways}
use Rattle.samples.specs.declared.kind.Kind.{Ghosts as Operations}
use Rattle.peeling.specs.Counting.{number}
use Rattle.peeling.specs.Incidence.{Incidence}
use Rattle.peeling.specs.Steps.{World, most, zeroed, seal, queue_singles}
use Rattle.peeling.specs.History.{missing, missing_in, waits, out, settles}
use Rattle.peeling.specs.Law.{Ready}
use Rattle.peeling.proofs.Bools.{and_true}
use Rattle.peeling.proofs.Counts.{number_same, number_all, tally_zero}
use Rattle.peeling.proofs.Rings.{ring_none, ring_same, up_to_all}
use Rattle.peeling.proofs.Loops.{length-filled, get_or-filled}
use Rattle.peeling.proofs.Worlds.{Queued, queued}
use Rattle.peeling.proofs.Grants.{grants_none}
use Rattle.peeling.proofs.Values.{found_sum_none}
use Rattle.peeling.proofs.Invariant.{Counters, Marked, Valued, Kept}

module _ {A : Type 0} (K : Operations A) (I : Incidence) (fits : I.bins ≤ most) (source : ℕ → A) (w : World A) (ready : Ready K I source w) where
  all_missing : (c : ℕ) → missing I [] c ≡ true
  unfolding missing
  all_missing c = refl

  size_is : (b : ℕ) → number I.pixels (λ c. I.lies c b) ≡ missing_in I [] b
  unfolding missing
  size_is b = number_same I.pixels _ _ (λ c l. sym (and_true (I.lies c b)))

  loop : Queued K I fits (zeroed K I w) I.bins (queue_singles I.bins I.bins (zeroed K I w))
  unfolding zeroed
  loop = queued K I fits (zeroed K I w) (ring_none I.bins w.queue (λ b. false) ready.queue_long (λ b l. refl)) I.bins (omega arith)

  counts_are : (b : ℕ) → b < I.bins → get_or (zeroed K I w).counts b 0 ≡ missing_in I [] b
  unfolding zeroed
  counts_are b l = get_or-filled I.bins (λ b. number I.pixels (λ c. I.lies c b)) w.counts 0 b ready.counts_long l ∙ size_is b

  sealed_counters : Counters I [] (seal K I w)
  unfolding seal zeroed waits out settles
  sealed_counters = record {
    grants = grants_none I;
    ring = ring_same I.bins _ _ _ _ _ loop.ring (λ b l. up_to_all (λ b. false) (λ b. eqb (get_or (zeroed K I w).counts b 0) 1) I.bins b l
        ∙ ap (λ x. eqb x 1) (counts_are b l));
    out = loop.frame.out ∙ sym (tally_zero I.bins (out []) (λ b l. refl));
    settled = loop.frame.settled;
  }

  sealed_marked : Marked I [] (seal K I w)
  unfolding seal zeroed
  sealed_marked = record {
    marks_long = subst (λ x. I.pixels ≤ length x) (sym loop.frame.marks) (subst (λ x. I.pixels ≤ x) (sym (length-filled I.pixels (λ c. 0) w.marks)) ready.marks_long);
    counts_long = subst (λ x. I.bins ≤ length x) (sym loop.counts) (subst (λ x. I.bins ≤ x) (sym (length-filled I.bins _ w.counts)) ready.counts_long);
    marks = λ c l. ap (λ x. eqb (get_or x c 0) 0) loop.frame.marks ∙ ap (λ x. eqb x 0) (get_or-filled I.pixels (λ c. 0) w.marks 0 c ready.marks_long l) ∙ sym (all_missing c);
    counts = λ b l. ap (λ x. get_or x b 0) loop.counts ∙ counts_are b l;
    left = loop.frame.left ∙ sym (number_all I.pixels (missing I []) (λ c l. all_missing c));
  }

  sealed_valued : Valued K I source [] (seal K I w)
  unfolding seal zeroed
  sealed_valued = record {
    picture_long = subst (λ x. I.pixels ≤ length x) (sym loop.frame.picture) (subst (λ x. I.pixels ≤ x) (sym (length-filled I.pixels (λ c. K.zero) w.picture)) ready.picture_long);
    sums_long = subst (λ x. I.bins ≤ length x) (sym loop.sums) ready.sums_long;
    balance = λ b l. sym (ready.sums_loaded b l)
        ∙ ap (λ x. get_or x b K.zero) (sym loop.sums)
        ∙ sym (K.laws.neutral _)
        ∙ ap (K.plus _) (sym (found_sum_none K I [] _ b (λ c k. all_missing c)));
    right = λ c l e t g. absurd (both_ways (missing I [] c) e (all_missing c));
  }

  pub sealed_kept : Kept K I source [] (seal K I w)
  sealed_kept = record { counters = sealed_counters; marked = sealed_marked; valued = sealed_valued }
