-- What every call on a tile keeps, from its birth on.
use Rattle.std.proofs.Common.{◌≡◌, ℕ, ◌+◌, ◌<◌, ◌≤◌, Bool, true, false, cond, ltb, leb, ◌∷◌, length, sym, refl, ap, ◌∙◌, subst, ⊎_elim, arith}
use Rattle.std.proofs.lemmas.Bool.{cases_lt, cases_Bool, cond-false, le-ltb, lt-leb, ltb-false}
use Rattle.samples.specs.declared.kind.Kind.{Ghosts as Operations}
use Rattle.mojette.specs.Meaning.{Shape, Meaning, Lawful, shape_of, pixels_of, bins_of}
use Rattle.mojette.specs.Refusals.{Refusal, refusal}
use Rattle.katz.specs.Sets.{Criterion}
use Rattle.peeling.specs.declared.state.State.{State}
use Rattle.peeling.specs.Steps.{World, Taken, none_waits, bad_cell, grants, take_answers, Finished, pixels_missing, grants_out, left_over, finish_answers}
use Rattle.peeling.specs.Steps.{served as all_zero}
use Rattle.peeling.specs.Steps.{seal as peel_seal, settle as peel_settle, give_back as peel_give_back}
use Rattle.peeling.specs.History.{missing, out}
use Rattle.peeling.specs.History.{refused as no_change, settles as peel_settles, History as PeelHistory}
use Rattle.peeling.specs.Law.{Ready, Run, sealed, takes, settles_grant, gives_back, refuses}
use Rattle.peeling.specs.Law.{Facts as PeelingFacts}
use Rattle.peeling.proofs.Counts.{number_none, tally_at}
use Rattle.peeling.proofs.Grants.{out_inside}
use Rattle.peeling.proofs.Invariant.{Kept as PeelKept}
use Rattle.peeling.proofs.Loops.{length-filled}
use Rattle.peeling.proofs.Outcome.{run_kept, peeling_law}
use Rattle.law.specs.Positions.{incidence}
use Rattle.law.specs.Steps.{Stage, loading, peeling, finished, Tables, done, refused, Outcome, peels_on, world_of, blank, short_queue, criterion, C, R, ghosted, with_ghost, load, seal, take_outcome, take, finds, settle, give_back, finish_outcome, finish}
use Rattle.law.specs.Steps.{settled as settled_with}
use Rattle.law.specs.Life.{Call, loads, seals, settles, finishes, event, History, loaded_places, since_seal, LongEnough, with_picture, Does, load_does, seal_does, take_does, settle_does, give_back_does, finish_does, HasGrant, Life, born, then, then_refused, then_ghosted}
use Rattle.law.specs.Life.{takes as take_call, gives_back as give_back_call}
use Rattle.law.specs.Law.{WhenFinished}
use Rattle.law.proofs.Agreement.{source, agrees_by_position, agrees_by_place}
use Rattle.law.proofs.Alone.{one_missing}
use Rattle.law.proofs.Loading.{Loaded, all_loaded, one_more, length-with_place, with_next, sums_fit, load_all, load_next}
use Rattle.law.proofs.Refusing.{refusals_keep}
use Rattle.law.proofs.Sealing.{none_short, criterion_holds, seal_early, seal_ghost, seal_accepted}
use Rattle.law.proofs.Sizes.{positions_few}
use Rattle.law.proofs.Vanishing.{ds, whole_laws}

module _ {S : Type 0} (K : Operations S) (m : Meaning S) where
  pub record WhileLoading (h : History) (n : ℕ) (t : Tables S) : Type 0 where
    pub lawful : Lawful (shape_of m)
    pub count : n ≡ loaded_places h
    pub few : n ≤ length m.places
    pub long : LongEnough (shape_of m) t
    pub sums : Loaded K m n t.sums

  pub record WhilePeeling (h : History) (s : State) (t : Tables S) : Type 0 where
    pub lawful : Lawful (shape_of m)
    pub criterion : Criterion m.P m.Q (ds m)
    pub run : Run K (incidence (shape_of m)) (source K m) (since_seal h) (world_of s t)

  abbrev pub Kept : History → Stage → Tables S → Type 0
  Kept h (loading n) t = WhileLoading h n t
  Kept h (peeling s) t = WhilePeeling h s t
  Kept h finished t = WhenFinished K m h t

  -- what a call leaves is kept
  abbrev Keeps : History → Call → Outcome S → Type 0
  Keeps h c o = Kept (event c o.answer ∷ h) o.stage o.tables

  -- State -------------------------------------------------------------------------------------------------------

  module _ (h : History) (s : State) (t : Tables S) (k : WhilePeeling h s t) where
    pub peel_kept : PeelKept K (incidence (shape_of m)) (source K m) (since_seal h) (world_of s t)
    peel_kept = run_kept K (incidence (shape_of m)) (positions_few (shape_of m) k.lawful) (source K m) k.run

    -- the law of peeling, of this run or one that goes on from it
    pub peel_law : (g : PeelHistory) (w : World S) → Run K (incidence (shape_of m)) (source K m) g w → PeelingFacts K (incidence (shape_of m)) (source K m) g w
    peel_law = peeling_law K (incidence (shape_of m)) (source K m)
        (one_missing m.P m.Q (shape_of m).records (whole_laws K m k.lawful) k.criterion)
        (positions_few (shape_of m) k.lawful)

    pub peel_facts : PeelingFacts K (incidence (shape_of m)) (source K m) (since_seal h) (world_of s t)
    peel_facts = peel_law (since_seal h) (world_of s t) k.run

    still_long : LongEnough (shape_of m) t
    still_long = record {
      picture = peel_kept.valued.picture_long;
      marks = peel_kept.marked.marks_long;
      sums = peel_kept.valued.sums_long;
      counts = peel_kept.marked.counts_long;
      queue = peel_kept.counters.ring.long;
    }

    queue_fits : short_queue (shape_of m) t ≡ 0
    unfolding short_queue
    queue_fits = cond-false _ 5 0 (le-ltb _ _ still_long.queue)

    pub inside : (b : ℕ) → 0 < out (since_seal h) b → b < bins_of (shape_of m)
    inside b = out_inside (incidence (shape_of m)) (since_seal h) peel_kept.counters.grants b

    -- what the calls do, past the check of their tables
    pub take_is : take K (shape_of m) s t ≡ take_outcome K (shape_of m) s t (take_answers (bins_of (shape_of m)) s t.queue)
    unfolding take
    take_is = rw queue_fits

    pub settle_is : (b : ℕ) → b < bins_of (shape_of m) → settle K (shape_of m) b s t ≡
        peels_on (peel_settle K (incidence (shape_of m)) b (world_of s t))
        (settled_with (finds K (shape_of m) b (world_of s t)) (peel_settle K (incidence (shape_of m)) b (world_of s t)).state.left)
    unfolding settle
    settle_is b l =
        let e : leb (bins_of (shape_of m)) b ≡ false = lt-leb _ _ l in
        rw (none_short (shape_of m) t still_long, e)

    pub give_back_is : (b : ℕ) → b < bins_of (shape_of m) → give_back K (shape_of m) b s t ≡
        peels_on (peel_give_back K (incidence (shape_of m)) b (world_of s t)) done
    unfolding give_back
    give_back_is b l =
        let e : leb (bins_of (shape_of m)) b ≡ false = lt-leb _ _ l in
        rw (queue_fits, e)

    pub finish_is : finish K (shape_of m) s t ≡ finish_outcome K (shape_of m) s t (finish_answers K (bins_of (shape_of m)) s t.sums)
    unfolding finish
    finish_is = rw (sums_fit K m 0 t still_long)

    -- a refused call
    refused_keeps : (c : Call) (r : Refusal) → since_seal (event c (refused r) ∷ h) ≡ no_change ∷ since_seal h →
        WhilePeeling (event c (refused r) ∷ h) s t
    refused_keeps c r e = record {
      lawful = k.lawful;
      criterion = k.criterion;
      run = subst (λ x. Run K (incidence (shape_of m)) (source K m) x (world_of s t)) (sym e) (refuses k.run);
    }

    take_keeps : Keeps h take_call (take K (shape_of m) s t)
    unfolding since_seal
    take_keeps = subst (Keeps h take_call) (sym take_is) (go (take_answers (bins_of (shape_of m)) s t.queue) refl)
      where
        go : (a : Taken) → take_answers (bins_of (shape_of m)) s t.queue ≡ a → Keeps h take_call (take_outcome K (shape_of m) s t a)
        go none_waits e = refused_keeps take_call _ refl
        go (bad_cell i) e = refused_keeps take_call _ refl
        go (grants b) e = record { lawful = k.lawful; criterion = k.criterion; run = takes k.run e }

    settle_keeps : (b : ℕ) → 0 < out (since_seal h) b → Keeps h (settles b) (settle K (shape_of m) b s t)
    unfolding since_seal
    settle_keeps b o = subst (Keeps h (settles b)) (sym (settle_is b (inside b o))) go
      where
        go : Keeps h (settles b) (peels_on (peel_settle K (incidence (shape_of m)) b (world_of s t))
            (settled_with (finds K (shape_of m) b (world_of s t)) (peel_settle K (incidence (shape_of m)) b (world_of s t)).state.left))
        go = record { lawful = k.lawful; criterion = k.criterion; run = settles_grant k.run o }

    give_back_keeps : (b : ℕ) → 0 < out (since_seal h) b → Keeps h (give_back_call b) (give_back K (shape_of m) b s t)
    unfolding since_seal
    give_back_keeps b o = subst (Keeps h (give_back_call b)) (sym (give_back_is b (inside b o))) go
      where
        go : Keeps h (give_back_call b) (peels_on (peel_give_back K (incidence (shape_of m)) b (world_of s t)) done)
        go = record { lawful = k.lawful; criterion = k.criterion; run = gives_back k.run o }

    -- a served finish finds nothing left and nothing out
    zeros : finish_answers K (bins_of (shape_of m)) s t.sums ≡ all_zero → (s.left ≡ 0) × (s.out ≡ 0)
    unfolding finish_answers
    zeros e = go (ltb 0 s.left) refl (ltb 0 s.out) refl _ e
      where
        go : (x : Bool) → ltb 0 s.left ≡ x → (y : Bool) → ltb 0 s.out ≡ y → (last : Finished) →
            cond x (pixels_missing s.left) (cond y (grants_out s.out) last) ≡ all_zero → (s.left ≡ 0) × (s.out ≡ 0)
        go true p y q last r = absurd (let k : ◌≡◌ {A = ℕ} 0 1 = cc in omega arith)
        go false p true q last r = absurd (let k : ◌≡◌ {A = ℕ} 0 1 = cc in omega arith)
        go false p false q last r = (let k = ltb-false _ _ p in omega arith, let k = ltb-false _ _ q in omega arith)

    finish_keeps : Keeps h finishes (finish K (shape_of m) s t)
    unfolding since_seal missing out peel_settles
    finish_keeps = subst (Keeps h finishes) (sym finish_is) (go (finish_answers K (bins_of (shape_of m)) s t.sums) refl)
      where
        go : (a : Finished) → finish_answers K (bins_of (shape_of m)) s t.sums ≡ a → Keeps h finishes (finish_outcome K (shape_of m) s t a)
        go (pixels_missing n) e = refused_keeps finishes _ refl
        go (grants_out n) e = refused_keeps finishes _ refl
        go (left_over x) e = refused_keeps finishes _ refl
        go all_zero e = record {
          none_missing = number_none _ _ (sym peel_facts.left_is ∙ (zeros e).0);
          none_out = λ b l. let few = tally_at (bins_of (shape_of m)) (out (since_seal h)) b l in let all = sym peel_facts.out_is ∙ (zeros e).1 in omega arith;
          settles_few = peel_facts.settles_few;
          picture_agrees = agrees_by_place K m _ (peel_facts.picture_agrees e);
          no_other = λ tile g. peel_facts.picture_only e tile (agrees_by_position K m tile g);
        }

  -- Loading -------------------------------------------------------------------------------------------------------

  module _ (h : History) (n : ℕ) (t : Tables S) (k : WhileLoading h n t) where
    -- a refused call
    still_loading : (c : Call) (r : Refusal) → loaded_places (event c (refused r) ∷ h) ≡ loaded_places h → WhileLoading (event c (refused r) ∷ h) n t
    still_loading c r e = record { lawful = k.lawful; count = k.count ∙ sym e; few = k.few; long = k.long; sums = k.sums }

    load_keeps : Keeps h loads (load K (shape_of m) m n t)
    unfolding loaded_places
    load_keeps = ⊎_elim
        (λ (l : n < length m.places). subst (Keeps h loads) (sym (load_next K m n t k.long l)) (more l))
        (λ (l : length m.places ≤ n). subst (Keeps h loads) (sym (load_all K m n t k.long l)) (still_loading loads _ (omega arith)))
        (cases_lt n (length m.places))
      where
        more : n < length m.places → WhileLoading (event loads done ∷ h) (n + 1) (with_next K m n t)
        more l = record {
          lawful = k.lawful;
          count = ap (λ x. x + 1) k.count;
          few = omega arith;
          long = record {
            picture = k.long.picture;
            marks = k.long.marks;
            sums = subst (λ x. bins_of (shape_of m) ≤ x) (sym (length-with_place K m n l t.sums k.long.sums)) k.long.sums;
            counts = k.long.counts;
            queue = k.long.queue;
          };
          sums = one_more K m n l t.sums k.long.sums k.sums;
        }

    ready : length m.places ≤ n → Ready K (incidence (shape_of m)) (source K m) (world_of blank t)
    ready l =
        let all : n ≡ length m.places = (let f = k.few in omega arith) in
        record {
          picture_long = k.long.picture;
          marks_long = k.long.marks;
          sums_long = k.long.sums;
          counts_long = k.long.counts;
          queue_long = k.long.queue;
          sums_loaded = all_loaded K m t.sums (subst (λ x. Loaded K m x t.sums) all k.sums);
        }

    seal_keeps : Keeps h seals (seal K (shape_of m) n t)
    unfolding loaded_places since_seal ghosted
    seal_keeps = ⊎_elim
        (λ (l : n < length m.places). subst (Keeps h seals) (sym (seal_early K m n t k.long l)) (still_loading seals _ (omega arith)))
        (λ (l : length m.places ≤ n). ⊎_elim
        (λ (c : criterion (shape_of m) ≡ true). subst (Keeps h seals) (sym (seal_accepted K m n t k.long l c)) (accepted l c))
        (λ (c : criterion (shape_of m) ≡ false). subst (Keeps h seals) (sym (seal_ghost K m n t k.long l c)) ghost)
        (cases_Bool (criterion (shape_of m))))
        (cases_lt n (length m.places))
      where
        ghost : WhileLoading (event seals (refused (refusal 9 (C (shape_of m)) (R (shape_of m)) 0)) ∷ h) n (with_ghost K (shape_of m) t)
        ghost = let c = k.count in record {
          lawful = k.lawful;
          count = omega arith;
          few = k.few;
          long = record {
            picture = subst (λ x. pixels_of (shape_of m) ≤ x) (sym (length-filled (pixels_of (shape_of m)) _ t.picture)) k.long.picture;
            marks = k.long.marks;
            sums = k.long.sums;
            counts = k.long.counts;
            queue = k.long.queue;
          };
          sums = k.sums;
        }

        accepted : length m.places ≤ n → criterion (shape_of m) ≡ true →
            Keeps h seals (peels_on (peel_seal K (incidence (shape_of m)) (world_of blank t)) done)
        accepted l c = record { lawful = k.lawful; criterion = criterion_holds K m c; run = sealed (ready l) }

  -- Every life ----------------------------------------------------------------------------------------------------

  -- a call on the tile
  step_keeps : (h : History) {stage : Stage} {t : Tables S} {c : Call} {o : Outcome S} → Kept h stage t → Does K (shape_of m) m c stage t o → HasGrant h c → Keeps h c o
  step_keeps h k (load_does {n} {t}) g = load_keeps h n t k
  step_keeps h k (seal_does {n} {t}) g = seal_keeps h n t k
  step_keeps h k (take_does {s} {t}) g = take_keeps h s t k
  step_keeps h k (settle_does {b} {s} {t}) g = settle_keeps h s t k b g
  step_keeps h k (give_back_does {b} {s} {t}) g = give_back_keeps h s t k b g
  step_keeps h k (finish_does {s} {t}) g = finish_keeps h s t k

  -- a call that was passed anything else, and was refused
  refusal_keeps : (h : History) (t : Tables S) (r : Refusal) (shape : Shape) (m' : Meaning S) {stage : Stage} {t' : Tables S} {c : Call} {o : Outcome S} →
      Kept h stage t → Does K shape m' c stage t' o → Kept (event c (refused r) ∷ h) stage t
  unfolding loaded_places since_seal
  refusal_keeps h t r shape m' k (load_does {n}) = still_loading h n t k loads r (omega arith)
  refusal_keeps h t r shape m' k (seal_does {n}) = still_loading h n t k seals r (omega arith)
  refusal_keeps h t r shape m' k (take_does {s}) = refused_keeps h s t k take_call r refl
  refusal_keeps h t r shape m' k (settle_does {b} {s}) = refused_keeps h s t k (settles b) r refl
  refusal_keeps h t r shape m' k (give_back_does {b} {s}) = refused_keeps h s t k (give_back_call b) r refl
  refusal_keeps h t r shape m' k (finish_does {s}) = refused_keeps h s t k finishes r refl

  -- a seal that was passed the tile's picture, and was refused: a ghost fills cells, and adds none
  length-ghosted : (shape : Shape) (n : ℕ) (t : Tables S) (r : Refusal) → (seal K shape n t).answer ≡ refused r →
      length (seal K shape n t).tables.picture ≡ length t.picture
  unfolding ghosted
  length-ghosted shape n t r e = ⊎_elim
      (λ (same : (seal K shape n t).tables ≡ t). ap (λ x. length x.picture) same)
      (λ (ghost : (seals ≡ seals) × (r ≡ refusal 9 (C shape) (R shape) 0) × ((seal K shape n t).tables ≡ with_ghost K shape t)).
      ap (λ x. length x.picture) ghost.2 ∙ length-filled (pixels_of shape) _ t.picture)
      (refusals_keep K shape m seals (loading n) t _ seal_does r e).1

  ghost_keeps : (h : History) (n : ℕ) (t : Tables S) (r : Refusal) (shape : Shape) (t' : Tables S) → WhileLoading h n t → t'.picture ≡ t.picture →
      (seal K shape n t').answer ≡ refused r → WhileLoading (event seals (refused r) ∷ h) n (with_picture (seal K shape n t').tables.picture t)
  unfolding loaded_places
  ghost_keeps h n t r shape t' k own e = let c = k.count in record {
    lawful = k.lawful;
    count = omega arith;
    few = k.few;
    long = record {
      picture = subst (λ x. pixels_of (shape_of m) ≤ x) (sym (length-ghosted shape n t' r e ∙ ap (λ x. length x) own)) k.long.picture;
      marks = k.long.marks;
      sums = k.long.sums;
      counts = k.long.counts;
      queue = k.long.queue;
    };
    sums = k.sums;
  }

  pub kept : {h : History} {stage : Stage} {t : Tables S} → Life K m h stage t → Kept h stage t
  unfolding loaded_places
  kept (born lawful long) = record { lawful = lawful; count = refl; few = omega arith; long = long; sums = λ x l. absurd (omega arith) }
  kept (then {h} life does grant) = step_keeps h (kept life) does grant
  kept (then_refused {h} {stage} {t} {c} {o} {r} shape m' t' life does e) = refusal_keeps h t r shape m' (kept life) does
  kept (then_ghosted {h} {n} {t} {r} shape t' life own e) = ghost_keeps h n t r shape t' (kept life) own e
