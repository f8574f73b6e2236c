-- The law, from what every call keeps.
use Rattle.std.proofs.Common.{◌≡◌, ℕ, ◌*◌, ◌<◌, ◌≤◌, true, false, cond, ◌&&◌, eqb, ◌⊎◌, ◌↔◌, List, ◌∷◌, length, get_or, Some, None, sym, refl, ap, ◌∙◌, subst, ap₂, inl, inr, ⊎_elim, arith, suc, ◌-◌, ltb}
use Rattle.std.proofs.lemmas.Bool.{cases_Bool, both_ways, cond-true, cond-false, lt-ltb, le-ltb}
use Rattle.samples.specs.declared.kind.Kind.{Ghosts as Operations}
use Rattle.mojette.specs.Meaning.{Meaning, Agrees, Ghost, shape_of, bins_of}
use Rattle.mojette.specs.Refusals.{Refusal, refusal}
use Rattle.peeling.specs.declared.state.State.{State}
use Rattle.peeling.specs.Counting.{number, tally}
use Rattle.peeling.specs.History.{missing, waits}
use Rattle.peeling.specs.History.{settled as settled_at}
use Rattle.peeling.specs.Law.{settles_grant}
use Rattle.peeling.specs.Steps.{Taken, none_waits, bad_cell, grants, take_answers, Finished, pixels_missing, grants_out, left_over, open_in, finish_answers}
use Rattle.peeling.specs.Steps.{served as all_zero, settle as peel_settle, Refused as TakeRefused}
use Rattle.peeling.proofs.Counts.{number_same, number_zero, tally_zero, least_same}
use Rattle.law.specs.Positions.{incidence}
use Rattle.law.specs.Steps.{Stage, loading, peeling, finished, Tables, done, granted, settled, refused, world_of, criterion, seal, take_outcome, take, finds, settle, give_back, finish_outcome, finish}
use Rattle.law.specs.Life.{History, loaded_places, since_seal}
use Rattle.law.specs.Law.{Refused, shown, ghosts_remain, T, Found, Waits, grants_of, lone, Facts, Law}
use Rattle.law.specs.Law.{WhileLoading as LoadingFacts, WhilePeeling as PeelingFacts}
use Rattle.law.proofs.Agreement.{agrees_by_position, agrees_by_place}
use Rattle.law.proofs.Lives.{WhileLoading, WhilePeeling, Kept, kept, peel_kept, peel_law, peel_facts, inside, take_is, settle_is, give_back_is, finish_is}
use Rattle.law.proofs.Leftover.{tells_left}
use Rattle.law.proofs.Opening.{opens_exactly}
use Rattle.law.proofs.Refusing.{refusals_keep}
use Rattle.law.proofs.Sealing.{criterion_holds, criterion_fails, seal_ghost, seal_accepted, seal_early}
use Rattle.law.proofs.Vanishing.{no_ghost, ghost_shown}
use Rattle.law.proofs.Loading.{load_next, load_all, records_number}

module _ {S : Type 0} (K : Operations S) (m : Meaning S) where
  -- Loading -------------------------------------------------------------------------------------------------------

  module _ (h : History) (n : ℕ) (t : Tables S) (k : WhileLoading K m h n t) (all : loaded_places h ≡ length m.places) where
    every : length m.places ≤ n
    every = let c = k.count in omega arith

    -- a seal by the criterion
    accepts : criterion (shape_of m) ≡ true → (seal K (shape_of m) n t).answer ≡ done
    accepts c = ap (λ o. o.answer) (seal_accepted K m n t k.long every c)

    rejects : criterion (shape_of m) ≡ false → (seal K (shape_of m) n t).answer ≡ ghosts_remain K m
    rejects c = ap (λ o. o.answer) (seal_ghost K m n t k.long every c)

    answers : ((seal K (shape_of m) n t).answer ≡ done) ⊎ ((seal K (shape_of m) n t).answer ≡ ghosts_remain K m)
    answers = ⊎_elim
        (λ (c : criterion (shape_of m) ≡ true). inl (accepts c))
        (λ (c : criterion (shape_of m) ≡ false). inr (rejects c))
        (cases_Bool (criterion (shape_of m)))

    fails : (seal K (shape_of m) n t).answer ≡ ghosts_remain K m → criterion (shape_of m) ≡ false
    fails r = ⊎_elim
        (λ (c : criterion (shape_of m) ≡ true). let e = accepts c in let z : ◌≡◌ {A = ℕ} 0 1 = cc in absurd (omega arith))
        (λ (c : criterion (shape_of m) ≡ false). c)
        (cases_Bool (criterion (shape_of m)))

    shows : (seal K (shape_of m) n t).answer ≡ ghosts_remain K m → Ghost K m (shown K m (seal K (shape_of m) n t).tables)
    shows r =
        let c = fails r in
        subst (λ o. Ghost K m (shown K m o.tables)) (sym (seal_ghost K m n t k.long every c))
        (ghost_shown K m k.lawful (criterion_fails K m c) t.picture k.long.picture)

    refuses : ((seal K (shape_of m) n t).answer ≡ ghosts_remain K m) ↔ ((g : List S) × Ghost K m g)
    refuses = (
      (λ r. (shown K m (seal K (shape_of m) n t).tables, shows r)),
      λ w. ⊎_elim
          (λ (c : criterion (shape_of m) ≡ true). absurd (no_ghost K m k.lawful (criterion_holds K m c) w.0 w.1))
          (λ (c : criterion (shape_of m) ≡ false). rejects c)
          (cases_Bool (criterion (shape_of m))),
    )

  loading_facts : (h : History) (n : ℕ) (t : Tables S) → WhileLoading K m h n t → LoadingFacts K m h n t
  loading_facts h n t k =
      record {
        loaded_is = k.count;
        load_serves = λ l. ap (λ o. o.answer) (load_next K m n t k.long (let c = k.count in omega arith));
        load_ends = λ e. ap (λ o. o.answer) (load_all K m n t k.long (let c = k.count in omega arith));
        seal_waits = λ l. ap (λ o. o.answer) (seal_early K m n t k.long (let c = k.count in omega arith)) ∙ ap₂ (λ x y. refused (refusal 8 (x - y) 0 0)) (records_number K m) k.count;
        seal_answers = answers h n t k;
        seal_refuses = refuses h n t k;
        ghost_shown = shows h n t k;
      }

  -- State -------------------------------------------------------------------------------------------------------

  module _ (h : History) (s : State) (t : Tables S) (k : WhilePeeling K m h s t) where
    -- Take, by what it finds in the queue
    refused_take : (a : Taken) → Refused (take_outcome K (shape_of m) s t a).answer ↔ TakeRefused a
    refused_take none_waits = ((λ _. tt), λ _. (_, refl))
    refused_take (bad_cell i) = ((λ _. tt), λ _. (_, refl))
    refused_take (grants b) = ((λ r. let e = r.1 in let z : ◌≡◌ {A = ℕ} 0 1 = cc in absurd (omega arith)), λ r. absurd r)

    take_refuses : Refused (take K (shape_of m) s t).answer ↔ ((b : ℕ) → b < T K m → ¬ (Waits K m h b))
    take_refuses = (
      (λ r b l w. both_ways _ ((peel_facts K m h s t k).take_refused.0 ((refused_take _).0 (subst (λ o. Refused o.answer) (take_is K m h s t k) r)) b l) w),
      λ none. subst (λ o. Refused o.answer) (sym (take_is K m h s t k)) ((refused_take _).1 ((peel_facts K m h s t k).take_refused.1
          (λ b l. ⊎_elim
          (λ (w : waits (incidence (shape_of m)) (since_seal h) b ≡ true). absurd (none b l w))
          (λ (w : waits (incidence (shape_of m)) (since_seal h) b ≡ false). w)
          (cases_Bool (waits (incidence (shape_of m)) (since_seal h) b))))),
    )

    take_tells : (r : Refusal) → (take K (shape_of m) s t).answer ≡ refused r → r ≡ refusal 10 0 0 0
    take_tells r e = go _ refl (ap (λ o. o.answer) (sym (take_is K m h s t k)) ∙ e)
      where
        go : (a : Taken) → take_answers (bins_of (shape_of m)) s t.queue ≡ a → (take_outcome K (shape_of m) s t a).answer ≡ refused r → r ≡ refusal 10 0 0 0
        go none_waits q e = cc
        go (bad_cell i) q e = absurd ((peel_facts K m h s t k).cell_good i q)
        go (grants b) q e = let z : ◌≡◌ {A = ℕ} 0 1 = cc in absurd (omega arith)

    take_grants : (b : ℕ) → (take K (shape_of m) s t).answer ≡ granted b → (b < T K m) × Waits K m h b
    take_grants b e = (peel_facts K m h s t k).take_granted b (go _ (ap (λ o. o.answer) (sym (take_is K m h s t k)) ∙ e))
      where
        go : (a : Taken) → (take_outcome K (shape_of m) s t a).answer ≡ granted b → a ≡ grants b
        go none_waits e = let z : ◌≡◌ {A = ℕ} 0 1 = cc in absurd (omega arith)
        go (bad_cell i) e = let z : ◌≡◌ {A = ℕ} 0 1 = cc in absurd (omega arith)
        go (grants c) e = cc

    -- Settle and give back, with a grant that is out
    settle_serves : (b : ℕ) → 0 < grants_of K m h b →
        (settle K (shape_of m) b s t).answer ≡ settled (lone K m h b) (number (m.P * m.Q) (missing (incidence (shape_of m)) (settled_at b ∷ since_seal h)))
    unfolding finds open_in
    settle_serves b o = ap (λ x. x.answer) (settle_is K m h s t k b (inside K m h s t k b o)) ∙ ap₂ settled found left
      where
        -- what is missing, by the marks and by the calls
        same : (c : ℕ) → c < m.P * m.Q → ((incidence (shape_of m)).lies c b && eqb (get_or t.marks c 0) 0) ≡ ((incidence (shape_of m)).lies c b && missing (incidence (shape_of m)) (since_seal h) c)
        same c l = ap (λ x. (incidence (shape_of m)).lies c b && x) ((peel_kept K m h s t k).marked.marks c l)

        found : finds K (shape_of m) b (world_of s t) ≡ lone K m h b
        found = ap₂ (λ n c. cond (eqb n 1) (Some c) None) (number_same (m.P * m.Q) _ _ same) (least_same (m.P * m.Q) _ _ same)

        left : (peel_settle K (incidence (shape_of m)) b (world_of s t)).state.left ≡ number (m.P * m.Q) (missing (incidence (shape_of m)) (settled_at b ∷ since_seal h))
        left = (peel_law K m h s t k _ _ (settles_grant k.run o)).left_is

    give_back_serves : (b : ℕ) → 0 < grants_of K m h b → (give_back K (shape_of m) b s t).answer ≡ done
    give_back_serves b o = ap (λ x. x.answer) (give_back_is K m h s t k b (inside K m h s t k b o))

    -- Finish, by what it finds in the state and the sums
    done_finish : (a : Finished) → (finish_outcome K (shape_of m) s t a).answer ≡ done → a ≡ all_zero
    done_finish (pixels_missing n) e = let z : ◌≡◌ {A = ℕ} 0 1 = cc in absurd (omega arith)
    done_finish (grants_out n) e = let z : ◌≡◌ {A = ℕ} 0 1 = cc in absurd (omega arith)
    done_finish (left_over x) e = let z : ◌≡◌ {A = ℕ} 0 1 = cc in absurd (omega arith)
    done_finish all_zero e = refl

    finished_zero : (finish K (shape_of m) s t).answer ≡ done → finish_answers K (bins_of (shape_of m)) s t.sums ≡ all_zero
    finished_zero e = done_finish _ (ap (λ o. o.answer) (sym (finish_is K m h s t k)) ∙ e)

    zero_finished : finish_answers K (bins_of (shape_of m)) s t.sums ≡ all_zero → (finish K (shape_of m) s t).answer ≡ done
    zero_finished e = ap (λ o. o.answer) (finish_is K m h s t k) ∙ ap (λ a. (finish_outcome K (shape_of m) s t a).answer) e

    finish_serves : ((c : ℕ) → c < m.P * m.Q → Found K m h c) → ((b : ℕ) → b < T K m → grants_of K m h b ≡ 0) →
        ((finish K (shape_of m) s t).answer ≡ done) ↔ ((tile : List S) × Agrees K m tile)
    finish_serves found back =
        let left : s.left ≡ 0 = (peel_facts K m h s t k).left_is ∙ number_zero _ _ found in
        let out : s.out ≡ 0 = (peel_facts K m h s t k).out_is ∙ tally_zero _ _ back in
        let law = (peel_facts K m h s t k).finish_served left out in (
          (λ e. let w = law.0 (finished_zero e) in (w.0, agrees_by_place K m w.0 w.1)),
          λ w. zero_finished (law.1 (w.0, agrees_by_position K m w.0 w.1)),
        )

    finish_misses : (n : ℕ) → number (m.P * m.Q) (missing (incidence (shape_of m)) (since_seal h)) ≡ suc n → (finish K (shape_of m) s t).answer ≡ refused (refusal 13 (suc n) 0 0)
    unfolding finish_answers
    finish_misses n e =
        let left : s.left ≡ suc n = (peel_facts K m h s t k).left_is ∙ e in
        ap (λ o. o.answer) (finish_is K m h s t k)
        ∙ ap (λ a. (finish_outcome K (shape_of m) s t a).answer) (cond-true (ltb 0 s.left) _ _ (lt-ltb 0 s.left (omega (arith, left))) ∙ ap pixels_missing left)

    finish_waits : ((c : ℕ) → c < m.P * m.Q → Found K m h c) → (n : ℕ) → tally (T K m) (grants_of K m h) ≡ suc n → (finish K (shape_of m) s t).answer ≡ refused (refusal 14 (suc n) 0 0)
    unfolding finish_answers
    finish_waits found n e =
        let left : s.left ≡ 0 = (peel_facts K m h s t k).left_is ∙ number_zero _ _ found in
        let out : s.out ≡ suc n = (peel_facts K m h s t k).out_is ∙ e in
        ap (λ o. o.answer) (finish_is K m h s t k)
        ∙ ap (λ a. (finish_outcome K (shape_of m) s t a).answer)
        (cond-false (ltb 0 s.left) _ _ (le-ltb 0 s.left (omega (arith, left)))
        ∙ cond-true (ltb 0 s.out) _ _ (lt-ltb 0 s.out (omega (arith, out))) ∙ ap grants_out out)

    peeling_facts : PeelingFacts K m h s t
    peeling_facts =
        record {
          goes_on = (peel_facts K m h s t k).goes_on;
          take_refuses = take_refuses;
          take_tells = take_tells;
          take_grants = take_grants;
          settle_serves = settle_serves;
          give_back_serves = give_back_serves;
          left_is = (peel_facts K m h s t k).left_is;
          out_is = (peel_facts K m h s t k).out_is;
          settled_is = (peel_facts K m h s t k).settled_is;
          settles_few = (peel_facts K m h s t k).settles_few;
          found_right = λ c l f tile g. sym ((peel_facts K m h s t k).found_right c l f tile (agrees_by_position K m tile g));
          finish_misses = finish_misses;
          finish_waits = finish_waits;
          finish_serves = finish_serves;
          picture_agrees = λ e. agrees_by_place K m _ ((peel_facts K m h s t k).picture_agrees (finished_zero e));
          no_other = λ e tile g. (peel_facts K m h s t k).picture_only (finished_zero e) tile (agrees_by_position K m tile g);
        }

  facts : (h : History) (stage : Stage) (t : Tables S) → Kept K m h stage t → Facts K m h stage t
  facts h (loading n) t k = loading_facts h n t k
  facts h (peeling s) t k = peeling_facts h s t k
  facts h finished t k = k

pub law : {S : Type 0} (K : Operations S) → Law K
law K = record { opens = opens_exactly; refusals = refusals_keep K; left_over = tells_left K; lives = λ m h stage t life. facts K m h stage t (kept K m life) }
