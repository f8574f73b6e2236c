-- A settle keeps the invariant.
use Rattle.std.proofs.Common.{◌≡◌, ℕ, ◌+◌, ◌-◌, ◌<◌, ◌≤◌, Bool, true, false, cond, not, ◌&&◌, ◌||◌, eqb, List, ◌∷◌, length, get_or, set, sym, refl, ap, ◌∙◌, subst, ⊎_elim, arith}
use Rattle.std.proofs.lemmas.List.{get_or-set_same, get_or-set_other, length-set}
use Rattle.std.proofs.lemmas.Bool.{cases_eq, cases_Bool, eqb-true, eqb-false, eq-eqb, ne_eqb, and_parts, and_right}
use Rattle.samples.specs.declared.kind.Kind.{Ghosts as Operations}
use Rattle.peeling.specs.Counting.{one_if, tally, number, least}
use Rattle.peeling.specs.Incidence.{Incidence, Agrees}
use Rattle.peeling.specs.Steps.{World, most, with_state, spent, one_found, placed, find, open_in, peeled, settle, take_off_all}
use Rattle.peeling.specs.History.{History, settled, missing, missing_in, waits, out, settles}
use Rattle.peeling.proofs.Bools.{or_false}
use Rattle.peeling.proofs.Counts.{tally_le, number_same, least_some, least_passes}
use Rattle.peeling.proofs.Sums.{moved}
use Rattle.peeling.proofs.Rings.{ring_same, up_to_all}
use Rattle.peeling.proofs.Worlds.{Holds, Down, TakenOff, taken_off}
use Rattle.peeling.proofs.Histories.{ended, Solo, solo, solo_bin, solo_left, idle_missing}
use Rattle.peeling.proofs.Grants.{Grants, grants_settled, out_inside}
use Rattle.peeling.proofs.Values.{found_sum, solo_sum_in, solo_sum_out, solo_value}
use Rattle.peeling.proofs.Invariant.{Counters, Marked, Valued, Kept, marked_same, valued_same}
use Rattle.peeling.proofs.Taking.{out_less}

-- A bin that the pixel lies in comes down to one exactly when it had another number before.
down_new : (m n : ℕ) (on : Bool) → n + one_if on ≡ m → (on && eqb (m - 1) 1) ≡ (not (eqb m 1) && eqb n 1)
down_new m n true e = ⊎_elim
    (λ (k : n ≡ 1).
    eq-eqb (m - 1) 1 (omega arith)
    ∙ sym (ap (λ x. not x && eqb n 1) (ne_eqb m 1 (omega arith)) ∙ eq-eqb n 1 k))
    (λ (k : n ≡ 1 → ⊥).
    ne_eqb (m - 1) 1 (omega arith)
    ∙ sym (ap (λ x. not (eqb m 1) && x) (ne_eqb n 1 k) ∙ and_right (not (eqb m 1)) false refl))
    (cases_eq n 1)
down_new m n false e = ⊎_elim
    (λ (k : m ≡ 1). sym (ap (λ x. not x && eqb n 1) (eq-eqb m 1 k)))
    (λ (k : m ≡ 1 → ⊥). sym (ap (λ x. not (eqb m 1) && x) (ne_eqb n 1 (omega arith)) ∙ and_right (not (eqb m 1)) false refl))
    (cases_eq m 1)

-- the state after a settle, but for the ring
settled_counters : {A : Type 0} (K : Operations A) (I : Incidence) (fits : I.bins ≤ most) (h : History) (a : ℕ) (w u : World A) → Counters I h w → 0 < out h a →
    Grants I (settled a ∷ h) → u.state.out ≡ w.state.out → u.state.settled ≡ w.state.settled → Holds I u (waits I (settled a ∷ h)) → Counters I (settled a ∷ h) (with_state (spent u.state) u)
unfolding spent settles out
settled_counters K I fits h a w u c some g same_out same-settled ring = record {
  grants = g;
  ring = ring;
  out =
      let m = out_less I h (settled a ∷ h) a c.grants some (λ b. refl) in
      let o = c.out in
      omega arith;
  settled =
      let e : settles h + 1 ≡ tally I.bins (ended (settled a ∷ h)) = g.all in
      let f = tally_le I.bins (ended (settled a ∷ h)) (λ b l. let o = g.once b l in omega arith) in
      let o = c.settled in
      omega arith;
}

module _ {A : Type 0} (K : Operations A) (I : Incidence) (fits : I.bins ≤ most) (source : ℕ → A) (h : History) (w : World A) (kept : Kept K I source h w)
    (a : ℕ) (some : 0 < out h a) where
  open_is : (c : ℕ) → c < I.pixels → open_in I w a c ≡ (I.lies c a && missing I h c)
  unfolding open_in
  open_is c l = ap (λ x. I.lies c a && x) (kept.marked.marks c l)

  number_is : number I.pixels (open_in I w a) ≡ missing_in I h a
  number_is = number_same I.pixels _ _ open_is

  inside : a < I.bins
  inside = out_inside I h kept.counters.grants a some

  -- not exactly one pixel of the bin is missing
  module _ (idle : missing_in I h a ≡ 1 → ⊥) where
    same_missing : (c : ℕ) → missing I (settled a ∷ h) c ≡ missing I h c
    same_missing = idle_missing I h a idle

    same_in : (b : ℕ) → missing_in I (settled a ∷ h) b ≡ missing_in I h b
    same_in b = number_same I.pixels _ _ (λ c l. ap (λ x. I.lies c b && x) (same_missing c))

    same_waits : (b : ℕ) → waits I h b ≡ waits I (settled a ∷ h) b
    unfolding waits
    same_waits b = sym (ap (λ x. waits I h b || (not (eqb (missing_in I h b) 1) && eqb x 1)) (same_in b)
        ∙ ap (λ x. waits I h b || x) (never (eqb (missing_in I h b) 1)) ∙ or_false (waits I h b))
      where
        never : (x : Bool) → (not x && x) ≡ false
        never true = refl
        never false = refl

    idle_kept : Kept K I source (settled a ∷ h) (with_state (spent w.state) w)
    unfolding spent
    idle_kept = record {
      counters = settled_counters K I fits h a w w kept.counters some
          (grants_settled I h a kept.counters.grants some (λ e. absurd (idle e)) (λ b. let e = same_in b in omega arith))
          refl refl
          (ring_same I.bins w.state.head w.state.waiting w.queue (waits I h) (waits I (settled a ∷ h)) kept.counters.ring (λ b l. same_waits b));
      marked = marked_same I h (settled a ∷ h) w (with_state (spent w.state) w) kept.marked same_missing refl refl refl;
      valued = valued_same K I source h (settled a ∷ h) w (with_state (spent w.state) w) kept.valued same_missing refl refl;
    }

  -- pixel c alone is missing in the bin
  module _ (c : ℕ) (s : Solo I h a c) where
    v : A
    v = get_or w.sums a K.zero

    new_grants : Grants I (settled a ∷ h)
    new_grants = grants_settled I h a kept.counters.grants some
        (λ e. let f = solo_bin I h a c s a in let o : one_if (I.lies c a) ≡ 1 = ap one_if s.lies_in in omega arith)
        (λ b. let f = solo_bin I h a c s b in omega arith)

    down_is : (b : ℕ) → b < I.bins → (I.lies c b && eqb (get_or w.counts b 0 - 1) 1) ≡ (not (eqb (missing_in I h b) 1) && eqb (missing_in I (settled a ∷ h) b) 1)
    down_is b l = ap (λ x. I.lies c b && eqb (x - 1) 1) (kept.marked.counts b l) ∙ down_new (missing_in I h b) (missing_in I (settled a ∷ h) b) (I.lies c b) (solo_bin I h a c s b)

    -- a bin that comes down to one did not wait
    apart : (b : ℕ) → b < I.bins → (I.lies c b && eqb (get_or w.counts b 0 - 1) 1) ≡ true → waits I h b ≡ false
    apart b l d = ⊎_elim
        (λ (e : waits I h b ≡ true).
        let o : one_if (waits I h b) ≡ 1 = ap one_if e in
        let lo = kept.counters.grants.low b l (omega arith) in
        let two : get_or w.counts b 0 - 1 ≡ 1 = eqb-true (get_or w.counts b 0 - 1) 1 (and_parts (I.lies c b) (eqb (get_or w.counts b 0 - 1) 1) d).1 in
        let m = kept.marked.counts b l in
        absurd (omega arith))
        (λ (e : waits I h b ≡ false). e)
        (cases_Bool (waits I h b))

    loop : TakenOff K I fits c v (placed c v w) (waits I h) I.bins (take_off_all K I c v I.bins (placed c v w))
    unfolding placed one_found
    loop = taken_off K I fits c v (placed c v w) (waits I h) kept.counters.ring kept.valued.sums_long kept.marked.counts_long apart I.bins (omega arith)

    found_counters : Counters I (settled a ∷ h) (with_state (spent (find K I c v w).state) (find K I c v w))
    unfolding find placed one_found waits
    found_counters = settled_counters K I fits h a w (find K I c v w) kept.counters some new_grants loop.frame.out loop.frame.settled
        (ring_same I.bins _ _ _ _ _ loop.ring (λ b l. up_to_all (waits I h) (Down K I fits c v (placed c v w) (waits I h)) I.bins b l ∙ ap (λ x. waits I h b || x) (down_is b l)))

    found_marks : (d : ℕ) → d < I.pixels → eqb (get_or (set w.marks c 1) d 0) 0 ≡ missing I (settled a ∷ h) d
    found_marks d l = ⊎_elim
        (λ (e : d ≡ c).
        ap (λ x. eqb (get_or (set w.marks c 1) x 0) 0) e
        ∙ ap (λ x. eqb x 0) (get_or-set_same w.marks c 1 0 (let i = s.inside in let m = kept.marked.marks_long in omega arith))
        ∙ sym (ap (missing I (settled a ∷ h)) e ∙ s.now))
        (λ (ne : d ≡ c → ⊥).
        ap (λ x. eqb x 0) (get_or-set_other w.marks c d 1 0 ne) ∙ kept.marked.marks d l ∙ sym (s.same d l ne))
        (cases_eq d c)

    found_marked : Marked I (settled a ∷ h) (with_state (spent (find K I c v w).state) (find K I c v w))
    unfolding spent find placed one_found
    found_marked = record {
      marks_long = subst (λ x. I.pixels ≤ length x) (sym loop.frame.marks) (let e = length-set w.marks c 1 in let m = kept.marked.marks_long in omega arith);
      counts_long = let e = loop.counts.long in let m = kept.marked.counts_long in omega arith;
      marks = λ d l. ap (λ x. eqb (get_or x d 0) 0) loop.frame.marks ∙ found_marks d l;
      counts = λ b l. ⊎_elim
          (λ (on : I.lies c b ≡ true).
          let e = loop.counts.hit b l on in
          let m = kept.marked.counts b l in
          let f = solo_bin I h a c s b in
          let o : one_if (I.lies c b) ≡ 1 = ap one_if on in
          omega arith)
          (λ (off : I.lies c b ≡ false).
          let e = loop.counts.miss b off in
          let m = kept.marked.counts b l in
          let f = solo_bin I h a c s b in
          let o : one_if (I.lies c b) ≡ 0 = ap one_if off in
          omega arith)
          (cases_Bool (I.lies c b));
      left =
          let e = loop.frame.left in
          let m = kept.marked.left in
          let f = solo_left I h a c s in
          omega arith;
    }

    found_right : (d : ℕ) → d < I.pixels → missing I (settled a ∷ h) d ≡ false → (t : List A) → Agrees K I source t →
        get_or (set w.picture c v) d K.zero ≡ get_or t d K.zero
    unfolding v
    found_right d l e t g = ⊎_elim
        (λ (k : d ≡ c).
        ap (λ x. get_or (set w.picture c v) x K.zero) k
        ∙ get_or-set_same w.picture c v K.zero (let i = s.inside in let m = kept.valued.picture_long in omega arith)
        ∙ solo_value K I h a c s w.picture source v t inside g (λ i m f. kept.valued.right i m f t g) (kept.valued.balance a inside)
        ∙ ap (λ x. get_or t x K.zero) (sym k))
        (λ (ne : d ≡ c → ⊥).
        get_or-set_other w.picture c d v K.zero ne ∙ kept.valued.right d l (sym (s.same d l ne) ∙ e) t g)
        (cases_eq d c)

    found_valued : Valued K I source (settled a ∷ h) (with_state (spent (find K I c v w).state) (find K I c v w))
    unfolding spent find placed one_found
    found_valued = record {
      picture_long = subst (λ x. I.pixels ≤ length x) (sym loop.frame.picture) (let e = length-set w.picture c v in let m = kept.valued.picture_long in omega arith);
      sums_long = let e = loop.sums.long in let m = kept.valued.sums_long in omega arith;
      balance = λ b l. kept.valued.balance b l ∙ ⊎_elim
          (λ (on : I.lies c b ≡ true).
          sym (moved K (get_or w.sums b K.zero) (found_sum K I h w.picture b) v)
          ∙ ap (λ x. K.plus x (K.plus (found_sum K I h w.picture b) v)) (sym (loop.sums.hit b l on))
          ∙ ap (K.plus _) (sym (solo_sum_in K I h a c s w.picture v b kept.valued.picture_long on)))
          (λ (off : I.lies c b ≡ false).
          ap (λ x. K.plus x (found_sum K I h w.picture b)) (sym (loop.sums.miss b off))
          ∙ ap (K.plus _) (sym (solo_sum_out K I h a c s w.picture v b off)))
          (cases_Bool (I.lies c b))
          ∙ ap (λ x. K.plus (get_or (take_off_all K I c v I.bins (placed c v w)).sums b K.zero) (found_sum K I (settled a ∷ h) x b)) (sym loop.frame.picture);
      right = λ d l e t g. ap (λ x. get_or x d K.zero) loop.frame.picture ∙ found_right d l e t g;
    }

    found_kept : Kept K I source (settled a ∷ h) (with_state (spent (find K I c (get_or w.sums a K.zero) w).state) (find K I c (get_or w.sums a K.zero) w))
    unfolding v
    found_kept = record { counters = found_counters; marked = found_marked; valued = found_valued }

  pub settled_kept : Kept K I source (settled a ∷ h) (settle K I a w)
  unfolding peeled
  settled_kept = go (eqb (number I.pixels (open_in I w a)) 1) refl
    where
      lone : number I.pixels (open_in I w a) ≡ 1 → Solo I h a (least I.pixels (open_in I w a))
      lone e =
          let l = least_some I.pixels (open_in I w a) (omega arith) in
          solo I h a (least I.pixels (open_in I w a)) (sym number_is ∙ e) l
          (sym (open_is (least I.pixels (open_in I w a)) l) ∙ least_passes I.pixels (open_in I w a) l)

      ended_with : World A → World A
      ended_with u = with_state (spent u.state) u

      go : (x : Bool) → eqb (number I.pixels (open_in I w a)) 1 ≡ x →
          Kept K I source (settled a ∷ h) (ended_with (cond x (find K I (least I.pixels (open_in I w a)) (get_or w.sums a K.zero) w) w))
      go true e = found_kept (least I.pixels (open_in I w a)) (lone (eqb-true _ 1 e))
      go false e = idle_kept (λ k. eqb-false _ 1 e (number_is ∙ k))
