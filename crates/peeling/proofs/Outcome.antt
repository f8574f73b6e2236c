-- The law, from the invariant.
use Rattle.std.proofs.Common.{◌≡◌, ℕ, ◌<◌, ◌≤◌, Bool, true, false, cond, not, ltb, ◌⊎◌, ◌↔◌, List, get_or, take, sym, refl, ap, ◌∙◌, subst, inl, inr, ⊎_elim, arith}
use Rattle.std.proofs.lemmas.List.{get_or-take, length-take-le, ext_get_or}
use Rattle.std.proofs.lemmas.Bool.{cases_lt, cases_Bool, ltb-true, ltb-false, not-false, not_from_true, both_ways}
use Rattle.samples.specs.declared.kind.Kind.{Ghosts as Operations}
use Rattle.peeling.specs.Incidence.{Incidence, OneMissing, Agrees}
use Rattle.peeling.specs.Steps.{World, most, Refused, none_waits, bad_cell, grants, front, take_answers, pixels_missing, grants_out, left_over, served, first_left_over, finish_answers}
use Rattle.peeling.specs.History.{History, missing, missing_in, waits, out}
use Rattle.peeling.specs.Law.{Run, sealed, takes, settles_grant, gives_back, refuses, Facts, PeelingLaw}
use Rattle.peeling.proofs.Counts.{tally_le, tally_at, number_none, number_zero, least_none, least_passes, one_if_yes}
use Rattle.peeling.proofs.Sums.{drop_right}
use Rattle.peeling.proofs.Histories.{ended}
use Rattle.peeling.proofs.Values.{found_sum, found_sum_all, agrees_loaded}
use Rattle.peeling.proofs.Invariant.{Kept}
use Rattle.peeling.proofs.Sealing.{sealed_kept}
use Rattle.peeling.proofs.Taking.{granted, grants_front, none_at_zero, front_waits, took_kept, gave_kept, refused_kept}
use Rattle.peeling.proofs.Settling.{settled_kept}

module _ {A : Type 0} (K : Operations A) (I : Incidence) (fits : I.bins ≤ most) (source : ℕ → A) where
  -- every world that calls can reach keeps the invariant
  pub run_kept : {h : History} {w : World A} → Run K I source h w → Kept K I source h w
  run_kept (sealed {w} ready) = sealed_kept K I fits source w ready
  run_kept (takes {h} {w} {b} r e) = took_kept K I fits source h w (run_kept r) b e
  run_kept (settles_grant {h} {w} {b} r some) = settled_kept K I fits source h w (run_kept r) b some
  run_kept (gives_back {h} {w} {b} r some) = gave_kept K I fits source h w (run_kept r) b some
  run_kept (refuses {h} {w} r) = refused_kept K I fits source h w (run_kept r)

  -- what finish answers, by cases
  finish_served_means : (w : World A) → finish_answers K I.bins w.state w.sums ≡ served → (w.state.left ≡ 0) × ((b : ℕ) → b < I.bins → get_or w.sums b K.zero ≡ K.zero)
  unfolding finish_answers first_left_over
  finish_served_means w e = go (ltb 0 w.state.left) refl (ltb 0 w.state.out) (ltb (first_left_over K I.bins w.sums) I.bins) refl e
    where
      go : (x : Bool) → ltb 0 w.state.left ≡ x → (y z : Bool) → ltb (first_left_over K I.bins w.sums) I.bins ≡ z →
          cond x (pixels_missing w.state.left) (cond y (grants_out w.state.out) (cond z (left_over (first_left_over K I.bins w.sums)) served)) ≡ served →
          (w.state.left ≡ 0) × ((b : ℕ) → b < I.bins → get_or w.sums b K.zero ≡ K.zero)
      go true p y z q r = absurd (let k : ◌≡◌ {A = ℕ} 0 1 = cc in omega arith)
      go false p true z q r = absurd (let k : ◌≡◌ {A = ℕ} 0 1 = cc in omega arith)
      go false p false true q r = absurd (let k : ◌≡◌ {A = ℕ} 0 1 = cc in omega arith)
      go false p false false q r = (
        let k = ltb-false _ _ p in omega arith,
        λ b l. K.laws.equal_same _ _ (not-false _ (least_none I.bins _ (ltb-false _ _ q) b l)),
      )

  finish_served_when : (w : World A) → w.state.left ≡ 0 → w.state.out ≡ 0 → ((b : ℕ) → b < I.bins → get_or w.sums b K.zero ≡ K.zero) → finish_answers K I.bins w.state w.sums ≡ served
  unfolding finish_answers first_left_over
  finish_served_when w left out zeros = go (ltb 0 w.state.left) refl (ltb 0 w.state.out) refl (ltb (first_left_over K I.bins w.sums) I.bins) refl
    where
      go : (x : Bool) → ltb 0 w.state.left ≡ x → (y : Bool) → ltb 0 w.state.out ≡ y → (z : Bool) → ltb (first_left_over K I.bins w.sums) I.bins ≡ z →
          cond x (pixels_missing w.state.left) (cond y (grants_out w.state.out) (cond z (left_over (first_left_over K I.bins w.sums)) served)) ≡ served
      go true p y q z r = absurd (let k = ltb-true _ _ p in omega arith)
      go false p true q z r = absurd (let k = ltb-true _ _ q in omega arith)
      go false p false q true r =
          let l = ltb-true _ _ r in
          absurd (both_ways (not (K.equal (get_or w.sums (first_left_over K I.bins w.sums) K.zero) K.zero))
          (not_from_true _ (ap (λ x. K.equal x K.zero) (zeros (first_left_over K I.bins w.sums) l) ∙ K.laws.equal_self K.zero))
          (least_passes I.bins _ l))
      go false p false q false r = refl

  module _ (alone : OneMissing I) (h : History) (w : World A) (kept : Kept K I source h w) where
    goes_on : (c : ℕ) → c < I.pixels → missing I h c ≡ true →
        (b : ℕ) × (b < I.bins) × (missing_in I h b ≡ 1) × ((waits I h b ≡ true) ⊎ (0 < out h b))
    goes_on c l m = (
      b,
      inside,
      one,
      ⊎_elim
          (λ (o : 0 < out h b). inr o)
          (λ (o : out h b ≤ 0). let k = kept.counters.grants.high b inside one in inl (one_if_yes (waits I h b) (omega arith)))
          (cases_lt 0 (out h b)),
    )
      where
        b : ℕ
        b = (alone (missing I h) c l m).0

        inside : (alone (missing I h) c l m).0 < I.bins
        inside = (alone (missing I h) c l m).1

        one : missing_in I h (alone (missing I h) c l m).0 ≡ 1
        one = (alone (missing I h) c l m).2

    take_granted : (b : ℕ) → take_answers I.bins w.state w.queue ≡ grants b → (b < I.bins) × (waits I h b ≡ true)
    take_granted b e =
        let g = granted K I w b e in
        let f = front_waits K I fits source h w kept g.0 in
        (subst (λ x. x < I.bins) g.1 f.0, subst (λ x. waits I h x ≡ true) g.1 f.1)

    -- a take answers by what waits
    answers : ((w.state.waiting ≡ 0) × (take_answers I.bins w.state w.queue ≡ none_waits)) ⊎ ((0 < w.state.waiting) × (take_answers I.bins w.state w.queue ≡ grants (front I.bins w.state w.queue)))
    answers = ⊎_elim
        (λ (k : 0 < w.state.waiting). inr (k, grants_front K I w k (front_waits K I fits source h w kept k).0))
        (λ (k : w.state.waiting ≤ 0). let z : w.state.waiting ≡ 0 = omega arith in inl (z, none_at_zero K I w z))
        (cases_lt 0 w.state.waiting)

    take_refused : Refused (take_answers I.bins w.state w.queue) ↔ ((b : ℕ) → b < I.bins → waits I h b ≡ false)
    take_refused = ((λ said. number_none I.bins (waits I h) (sym kept.counters.ring.size ∙ idle said)), λ none. none_left none)
      where
        idle : Refused (take_answers I.bins w.state w.queue) → w.state.waiting ≡ 0
        idle said = ⊎_elim (λ k. k.0) (λ k. absurd (subst Refused k.1 said)) answers

        none_left : ((b : ℕ) → b < I.bins → waits I h b ≡ false) → Refused (take_answers I.bins w.state w.queue)
        none_left none = ⊎_elim
            (λ k. subst Refused (sym k.1) tt)
            (λ k. let z = number_zero I.bins (waits I h) none in let s = kept.counters.ring.size in let n = k.0 in absurd (omega arith))
            answers

    cell_good : (i : ℕ) → take_answers I.bins w.state w.queue ≡ bad_cell i → ⊥
    cell_good i e = ⊎_elim
        (λ k. let a = k.1 in let z : ◌≡◌ {A = ℕ} 0 1 = cc in omega arith)
        (λ k. let a = k.1 in let z : ◌≡◌ {A = ℕ} 0 1 = cc in omega arith)
        answers

    -- with nothing missing, the picture is every tile that agrees
    all_found : w.state.left ≡ 0 → (c : ℕ) → c < I.pixels → missing I h c ≡ false
    all_found e = number_none I.pixels (missing I h) (sym kept.marked.left ∙ e)

    only : w.state.left ≡ 0 → (t : List A) → Agrees K I source t → t ≡ take I.pixels w.picture
    only e t g = ext_get_or K.zero t (take I.pixels w.picture)
        (g.size ∙ sym (length-take-le I.pixels w.picture kept.valued.picture_long))
        (λ c l. let k : c < I.pixels = subst (λ x. c < x) g.size l in
        sym (kept.valued.right c k (all_found e c k) t g) ∙ sym (get_or-take I.pixels w.picture c K.zero k))

    -- a tile that agrees leaves no sum over
    none_over : w.state.left ≡ 0 → (t : List A) → Agrees K I source t → (b : ℕ) → b < I.bins → get_or w.sums b K.zero ≡ K.zero
    none_over e t g b l = drop_right K (get_or w.sums b K.zero) K.zero (found_sum K I h w.picture b)
        (sym (kept.valued.balance b l)
        ∙ sym (agrees_loaded K I source t g b l)
        ∙ sym (found_sum_all K I h w.picture t b (all_found e) (λ c k. kept.valued.right c k (all_found e c k) t g))
        ∙ sym (K.laws.neutral _)
        ∙ K.laws.comm _ K.zero)

    picture_agrees : finish_answers K I.bins w.state w.sums ≡ served → Agrees K I source (take I.pixels w.picture)
    picture_agrees e = record {
      size = length-take-le I.pixels w.picture kept.valued.picture_long;
      sums = λ b l on.
          sym (found_sum_all K I h w.picture (take I.pixels w.picture) b (all_found left) (λ c k. sym (get_or-take I.pixels w.picture c K.zero k)))
          ∙ sym (K.laws.neutral _)
          ∙ K.laws.comm _ K.zero
          ∙ ap (λ x. K.plus x (found_sum K I h w.picture b)) (sym ((finish_served_means w e).1 b l))
          ∙ sym (kept.valued.balance b l)
          ∙ ap (λ x. cond x (source b) K.zero) on;
    }
      where
        left : w.state.left ≡ 0
        left = (finish_served_means w e).0

    facts : Facts K I source h w
    facts = record {
      goes_on = goes_on;
      take_refused = take_refused;
      cell_good = cell_good;
      take_granted = take_granted;
      left_is = kept.marked.left;
      out_is = kept.counters.out;
      settled_is = kept.counters.settled;
      settles_few =
          let e = kept.counters.grants.all in
          let f = tally_le I.bins (ended h) (λ b l. let o = kept.counters.grants.once b l in omega arith) in
          omega arith;
      found_right = kept.valued.right;
      finish_served = λ left none_out. (
        (λ e. (take I.pixels w.picture, picture_agrees e)),
        λ some. finish_served_when w left none_out (none_over left some.0 some.1),
      );
      picture_agrees = picture_agrees;
      picture_only = λ e. only (finish_served_means w e).0;
    }

pub peeling_law : {A : Type 0} (K : Operations A) → PeelingLaw K
peeling_law K I source alone fits h w run = facts K I fits source alone h w (run_kept K I fits source run)

-- Where no bin waits and no grant is out, no pixel is missing: taking and settling until none waits fills the tile.
pub none_left : {A : Type 0} (K : Operations A) (I : Incidence) (source : ℕ → A) (h : History) (w : World A) → Facts K I source h w →
    ((b : ℕ) → b < I.bins → waits I h b ≡ false) → w.state.out ≡ 0 → w.state.left ≡ 0
none_left K I source h w f idle none = f.left_is ∙ number_zero I.pixels (missing I h) found
  where
    found : (c : ℕ) → c < I.pixels → missing I h c ≡ false
    found c l = ⊎_elim
        (λ (m : missing I h c ≡ true).
        let on = f.goes_on c l m in
        ⊎_elim
        (λ (wt : waits I h on.0 ≡ true). absurd (both_ways (waits I h on.0) (idle on.0 on.1) wt))
        (λ (o : 0 < out h on.0).
        let k = tally_at I.bins (out h) on.0 on.1 in
        let e = f.out_is in
        absurd (omega arith))
        on.3)
        (λ (m : missing I h c ≡ false). m)
        (cases_Bool (missing I h c))
