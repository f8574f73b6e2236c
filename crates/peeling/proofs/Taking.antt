-- A take, a give back and a refused call keep the invariant.
use Rattle.std.proofs.Common.{◌≡◌, ℕ, ◌+◌, ◌-◌, ◌%◌, ◌<◌, ◌≤◌, Bool, true, false, cond, not, ◌&&◌, ◌||◌, eqb, ltb, ◌∷◌, set, sym, refl, ap, ◌∙◌, subst, ⊎_elim, arith}
use Rattle.std.proofs.lemmas.Bool.{cases_eq, eqb-true, eqb-false, eq-eqb, ne_eqb, ltb-true, ltb-false, and_right, or_right}
use Rattle.samples.specs.declared.kind.Kind.{Ghosts as Operations}
use Rattle.peeling.specs.Counting.{one_if, tally}
use Rattle.peeling.specs.Incidence.{Incidence}
use Rattle.peeling.specs.Steps.{World, most, none_waits, bad_cell, grants, front, take_answers, taken, handed_in, with_state, take, give_back}
use Rattle.peeling.specs.History.{History, took, gave_back, refused, missing, waits, out, settles}
use Rattle.peeling.proofs.Bools.{and_true, or_false}
use Rattle.peeling.proofs.Counts.{tally_le, one_if_no}
use Rattle.peeling.proofs.Rings.{Ring, ring_front, ring_take, ring_append}
use Rattle.peeling.proofs.Worlds.{Framed, append_framed, append_sums, append_counts, append_holds}
use Rattle.peeling.proofs.Histories.{same_bin, other_bin, tally_one_more}
use Rattle.peeling.proofs.Grants.{Grants, grants_took, grants_gave, grants_refused, out_inside}
use Rattle.peeling.proofs.Invariant.{Counters, Kept, marked_same, valued_same}

-- the number of grants out is at most that of the bins
pub out_few : (I : Incidence) (h : History) → Grants I h → tally I.bins (out h) ≤ I.bins
out_few I h g = tally_le I.bins (out h) (λ b l. let o = g.once b l in omega arith)

-- one grant less is out
pub out_less : (I : Incidence) (h k : History) (a : ℕ) → Grants I h → 0 < out h a → ((b : ℕ) → out k b ≡ out h b - one_if (eqb a b)) →
    tally I.bins (out h) ≡ tally I.bins (out k) + 1
out_less I h k a g some step = tally_one_more I.bins a (out k) (out h) (out_inside I h g a some) each
  where
    each : (b : ℕ) → out h b ≡ out k b + one_if (eqb a b)
    each b = ⊎_elim
        (λ (e : a ≡ b). let n : 0 < out h b = subst (λ x. 0 < out h x) e some in let o = same_bin a b e in let s = step b in omega arith)
        (λ (d : a ≡ b → ⊥). let o = other_bin a b d in let s = step b in omega arith)
        (cases_eq a b)

module _ {A : Type 0} (K : Operations A) (I : Incidence) where
  -- what a take answers, by cases
  pub granted : (w : World A) (b : ℕ) → take_answers I.bins w.state w.queue ≡ grants b → (0 < w.state.waiting) × (front I.bins w.state w.queue ≡ b) × (front I.bins w.state w.queue < I.bins)
  unfolding take_answers
  granted w b e = go (eqb w.state.waiting 0) refl (ltb (front I.bins w.state w.queue) I.bins) refl e
    where
      go : (x : Bool) → eqb w.state.waiting 0 ≡ x → (y : Bool) → ltb (front I.bins w.state w.queue) I.bins ≡ y →
          cond x none_waits (cond y (grants (front I.bins w.state w.queue)) (bad_cell (w.state.head % I.bins))) ≡ grants b →
          (0 < w.state.waiting) × (front I.bins w.state w.queue ≡ b) × (front I.bins w.state w.queue < I.bins)
      go true p y q r = absurd (let z : ◌≡◌ {A = ℕ} 0 1 = cc in omega arith)
      go false p true q r = (let n = eqb-false _ _ p in omega arith, cc, ltb-true _ _ q)
      go false p false q r = absurd (let z : ◌≡◌ {A = ℕ} 0 1 = cc in omega arith)

  pub grants_front : (w : World A) → 0 < w.state.waiting → front I.bins w.state w.queue < I.bins → take_answers I.bins w.state w.queue ≡ grants (front I.bins w.state w.queue)
  unfolding take_answers
  grants_front w some inside = go (eqb w.state.waiting 0) refl (ltb (front I.bins w.state w.queue) I.bins) refl
    where
      go : (x : Bool) → eqb w.state.waiting 0 ≡ x → (y : Bool) → ltb (front I.bins w.state w.queue) I.bins ≡ y →
          cond x none_waits (cond y (grants (front I.bins w.state w.queue)) (bad_cell (w.state.head % I.bins))) ≡ grants (front I.bins w.state w.queue)
      go true p y q = absurd (let n = eqb-true _ _ p in omega arith)
      go false p true q = refl
      go false p false q = absurd (let n = ltb-false _ _ q in omega arith)

  pub none_at_zero : (w : World A) → w.state.waiting ≡ 0 → take_answers I.bins w.state w.queue ≡ none_waits
  unfolding take_answers
  none_at_zero w none = ap (λ x. cond x none_waits (cond (ltb (front I.bins w.state w.queue) I.bins) (grants (front I.bins w.state w.queue)) (bad_cell (w.state.head % I.bins)))) (eq-eqb w.state.waiting 0 none)

  module _ (fits : I.bins ≤ most) (source : ℕ → A) (h : History) (w : World A) (kept : Kept K I source h w) where
    -- the position at the front waits
    pub front_waits : 0 < w.state.waiting → (front I.bins w.state w.queue < I.bins) × (waits I h (front I.bins w.state w.queue) ≡ true)
    unfolding front
    front_waits some = ring_front I.bins w.state.head w.state.waiting w.queue (waits I h) kept.counters.ring some

    took_waits : (b : ℕ) → waits I (took b ∷ h) b ≡ false
    unfolding waits
    took_waits b = ap (λ x. waits I h b && not x) (eq-eqb b b refl) ∙ and_right (waits I h b) false refl

    took_others : (b a : ℕ) → (a ≡ b → ⊥) → waits I h a ≡ waits I (took b ∷ h) a
    unfolding waits
    took_others b a d = sym (ap (λ x. waits I h a && not x) (ne_eqb b a (λ e. d (sym e))) ∙ and_true (waits I h a))

    took_grants : (b : ℕ) → take_answers I.bins w.state w.queue ≡ grants b → Grants I (took b ∷ h)
    took_grants b e = grants_took I h b kept.counters.grants
        (subst (λ x. x < I.bins) (granted w b e).1 (granted w b e).2)
        (subst (λ x. waits I h x ≡ true) (granted w b e).1 (front_waits (granted w b e).0).1)

    took_out : (b : ℕ) → b < I.bins → tally I.bins (out (took b ∷ h)) ≡ tally I.bins (out h) + 1
    unfolding out
    took_out b l = tally_one_more I.bins b (out h) (out (took b ∷ h)) l (λ a. refl)

    took_counters : (b : ℕ) → take_answers I.bins w.state w.queue ≡ grants b → Counters I (took b ∷ h) (take K I w)
    unfolding taken front settles
    took_counters b e = record {
      grants = took_grants b e;
      ring = ring_take I.bins w.state.head w.state.waiting w.queue (waits I h) (waits I (took b ∷ h)) kept.counters.ring (granted w b e).0
          (subst (λ x. waits I (took b ∷ h) x ≡ false) (sym (granted w b e).1) (took_waits b))
          (λ a l d. took_others b a (λ k. d (k ∙ sym (granted w b e).1)));
      out =
          let m = took_out b (subst (λ x. x < I.bins) (granted w b e).1 (granted w b e).2) in
          let f = out_few I (took b ∷ h) (took_grants b e) in
          let o = kept.counters.out in
          omega arith;
      settled = kept.counters.settled;
    }

    pub took_kept : (b : ℕ) → take_answers I.bins w.state w.queue ≡ grants b → Kept K I source (took b ∷ h) (take K I w)
    unfolding taken missing
    took_kept b e = record {
      counters = took_counters b e;
      marked = marked_same I h (took b ∷ h) w (take K I w) kept.marked (λ c. refl) refl refl refl;
      valued = valued_same K I source h (took b ∷ h) w (take K I w) kept.valued (λ c. refl) refl refl;
    }

    gave_waits : (b : ℕ) → waits I (gave_back b ∷ h) b ≡ true
    unfolding waits
    gave_waits b = ap (λ x. waits I h b || x) (eq-eqb b b refl) ∙ or_right (waits I h b) true refl

    gave_others : (b a : ℕ) → (a ≡ b → ⊥) → waits I h a ≡ waits I (gave_back b ∷ h) a
    unfolding waits
    gave_others b a d = sym (ap (λ x. waits I h a || x) (ne_eqb b a (λ e. d (sym e))) ∙ or_false (waits I h a))

    gave_counters : (b : ℕ) → 0 < out h b → Counters I (gave_back b ∷ h) (give_back K I b w)
    unfolding handed_in settles out
    gave_counters b some = record {
      grants = grants_gave I h b kept.counters.grants some;
      ring = append_holds K I fits b (with_state (handed_in w.state) w) (waits I (gave_back b ∷ h)) more.0 more.1;
      out =
          let m = out_less I h (gave_back b ∷ h) b kept.counters.grants some (λ a. refl) in
          let o = kept.counters.out in
          let f = (append_framed K I b (with_state (handed_in w.state) w)).out in
          omega arith;
      settled = (append_framed K I b (with_state (handed_in w.state) w)).settled ∙ kept.counters.settled;
    }
      where
        inside : b < I.bins
        inside = out_inside I h kept.counters.grants b some

        was : waits I h b ≡ false
        was = one_if_no (waits I h b) (let o = kept.counters.grants.once b inside in omega arith)

        more : (w.state.waiting < I.bins) × Ring I.bins w.state.head (w.state.waiting + 1) (set w.queue ((w.state.head + w.state.waiting) % I.bins) b) (waits I (gave_back b ∷ h))
        more = ring_append I.bins w.state.head w.state.waiting w.queue (waits I h) (waits I (gave_back b ∷ h)) b kept.counters.ring inside was (gave_waits b)
            (λ a l d. gave_others b a d)

    pub gave_kept : (b : ℕ) → 0 < out h b → Kept K I source (gave_back b ∷ h) (give_back K I b w)
    unfolding handed_in missing
    gave_kept b some = record {
      counters = gave_counters b some;
      marked = marked_same I h (gave_back b ∷ h) w (give_back K I b w) kept.marked (λ c. refl) frame.marks (append_counts K I b (with_state (handed_in w.state) w)) frame.left;
      valued = valued_same K I source h (gave_back b ∷ h) w (give_back K I b w) kept.valued (λ c. refl) frame.picture (append_sums K I b (with_state (handed_in w.state) w));
    }
      where
        frame : Framed (give_back K I b w) (with_state (handed_in w.state) w)
        frame = append_framed K I b (with_state (handed_in w.state) w)

    pub refused_kept : Kept K I source (refused ∷ h) w
    unfolding missing waits out settles
    refused_kept = record {
      counters = record {
        grants = grants_refused I h kept.counters.grants;
        ring = kept.counters.ring;
        out = kept.counters.out;
        settled = kept.counters.settled;
      };
      marked = marked_same I h (refused ∷ h) w w kept.marked (λ c. refl) refl refl refl;
      valued = valued_same K I source h (refused ∷ h) w w kept.valued (λ c. refl) refl refl;
    }
