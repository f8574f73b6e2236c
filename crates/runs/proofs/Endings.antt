-- How a run ends: at its seal, or at its finish.
use Rattle.std.proofs.Common.{◌≡◌, ℕ, zero, suc, ◌*◌, ◌<◌, ◌≤◌, Bool, true, false, cond, ltb, [], ◌∷◌, length, Some, None, Ok, Err, Result, sym, refl, ap, ◌∙◌, subst, ⊎_elim, arith}
use Rattle.std.proofs.lemmas.Bool.{true≢false, cases_Bool, cond-false, le-ltb}
use Rattle.samples.specs.declared.kind.Kind.{Ghosts as Operations}
use Rattle.mojette.specs.Faults.{refusal_of}
use Rattle.mojette.specs.Meaning.{Meaning, Ghost, Lawful, verdict, shape_of, bins_of, pixels_of}
use Rattle.mojette.specs.Refusals.{Refusal, refusal}
use Rattle.peeling.specs.History.{out, missing}
use Rattle.peeling.specs.Steps.{World, first_left_over, finish_answers, left_over}
use Rattle.peeling.specs.Steps.{seal as peel_seal}
use Rattle.peeling.specs.Steps as peel
use Rattle.peeling.proofs.Counts.{tally_zero, number_zero}
use Rattle.plan.specs.declared.plan.Plan.{Plan}
use Rattle.plan.specs.Shapes.{shape}
use Rattle.law.specs.Law.{T, Found, grants_of, shown, ghosts_remain, WhileLoading, WhilePeeling}
use Rattle.law.specs.Life.{History, Life, born, then, seal_does, event, loaded_places, since_seal, LongEnough}
use Rattle.law.specs.Life as calls
use Rattle.law.specs.Positions.{incidence, place_at, bin_at}
use Rattle.law.specs.Steps.{loading, peeling, finished, Tables, Answer, done, granted, settled, refused, Outcome, peels_on, world_of, blank, criterion, C, R, short, seal, finish, finish_outcome}
use Rattle.law.specs.Turns.{state_of, turns, peeled_out, seal_and_peel, loaded}
use Rattle.law.proofs.Lives.{kept, finish_is}
use Rattle.law.proofs.Outcome.{law}
use Rattle.law.proofs.Sealing.{none_short, seal_ghost, seal_accepted}
use Rattle.tile.specs.declared.states.Finished.{Finished as FinishedTile}
use Rattle.tile.specs.declared.states.Loading.{Loading}
use Rattle.tile.specs.declared.states.Peeling.{Peeling}
use Rattle.tile.specs.declared.states.Refused.{Refused}
use Rattle.tile.specs.Outcomes.{seal_outcome}
use Rattle.tile.specs.Outcomes as outcomes
use Rattle.tile.specs.Worlds.{short_refusal}
use Rattle.tile.proofs.Checks.{all_long}
use Rattle.tile.proofs.Living.{calls_live}
use Rattle.runs.specs.Rebuilding.{Ready, Rebuilds, unlawful, too_short, ghosted, contradicted, rebuilt, CanBeRebuilt, Served, ServesExactly, served, refuses}
use Rattle.runs.specs.Rebuilding as answers
use Rattle.runs.specs.Runs.{LoadsAll, AllLoaded}
use Rattle.runs.specs.Worker.{one_worker, with_tables, sealing, finishing, ends}
use Rattle.runs.proofs.Turns.{not_both, Free, Rest, all_peeled}

module _ {S : Type 0} (K : Operations S) (plan : Plan) where
  abbrev pub Seals : Loading → Tables S → Result Peeling (Refused Loading) → Tables S → Type 0
  Seals x t r t' = seal_outcome r t' ≡ seal K (shape plan) x t

  abbrev pub SealsAndPeels : Loading → Tables S → Result Peeling (Refused Loading) → Tables S → Type 0
  SealsAndPeels x t r t' = seal_outcome r t' ≡ seal_and_peel K (shape plan) x t

  abbrev pub Finishes : Peeling → Tables S → Result FinishedTile (Refused Peeling) → Type 0
  Finishes x t r = outcomes.finish_outcome r t ≡ finish K (shape plan) x t

same_refusal : {r s : Refusal} → refused r ≡ refused s → r ≡ s
same_refusal {r} {s} e = cc

-- Where sealing and peeling is refused, it is the seal that is.
pub only_seals : {S : Type 0} (K : Operations S) (plan : Plan) (x : Loading) (t t' : Tables S) (r : Refused Loading) → SealsAndPeels K plan x t (Err r) t' → Seals K plan x t (Err r) t'
unfolding seal_and_peel
only_seals {S} K plan x t t' r e = go (seal K (shape plan) x t) (seal K (shape plan) x t).answer e
  where
    go : (o : Outcome S) (a : Answer) → seal_outcome (Err r) t' ≡ peeled_out K (shape plan) a o → seal_outcome (Err r) t' ≡ o
    go o done e = absurd (not_both {a = done} {b = refused (refusal_of r.fault)} refl refl (sym (ap (λ o. o.answer) e)))
    go o (granted b) e = e
    go o (settled c n) e = e
    go o (refused q) e = e

module _ {S : Type 0} (K : Operations S) (m : Meaning S) (plan : Plan) (own : shape plan ≡ shape_of m) (before : Tables S) (ready : Ready K m before) where
  -- Seal ----------------------------------------------------------------------------------------------------------------
  module _ (x : Loading) (t t' : Tables S) (h : History) (life : Life K m h (loading x) t) (all : loaded_places h ≡ length m.places) where
    enough : length m.places ≤ x
    enough = omega (arith, (kept K m life).count)

    step : (r : Outcome S) → r ≡ seal K (shape plan) x t → r ≡ seal K (shape_of m) x t
    step r e = e ∙ ap (λ s. seal K s x t) own

    seal_refused : (r : Refused Loading) → Seals K plan x t (Err r) t' → Rebuilds K m before (refuses (refusal_of r.fault)) t'
    seal_refused r e = ⊎_elim
        (λ yes. absurd (not_both {a = done} {b = refused (refusal_of r.fault)} refl refl (sym yes ∙ sym (ap (λ o. o.answer) does))))
        (λ ghost.
        let is : refusal_of r.fault ≡ refusal 9 (C (shape_of m)) (R (shape_of m)) 0 = same_refusal (ap (λ o. o.answer) does ∙ ghost) in
        subst (λ a. Rebuilds K m before (refuses a) t') (sym is)
        (ghosted ready (fails ghost) (_, ((calls_live K).seals (shape plan) x t t' (Err r) e).own m h own life tt)
        (subst (λ o. Ghost K m (shown K m o.tables)) (sym does) (facts.ghost_shown all ghost))))
        (facts.seal_answers all)
      where
        does : seal_outcome (Err r) t' ≡ seal K (shape_of m) x t
        does = step (seal_outcome (Err r) t') e

        facts : WhileLoading K m h x t
        facts = (law K).lives m h (loading x) t life

        fails : (seal K (shape_of m) x t).answer ≡ ghosts_remain K m → criterion (shape_of m) ≡ false
        fails ghost = ⊎_elim
            (λ holds. absurd (not_both {a = done} {b = ghosts_remain K m} refl refl (sym (ap (λ o. o.answer) (seal_accepted K m x t (kept K m life).long enough holds)) ∙ ghost)))
            (λ fails. fails) (cases_Bool (criterion (shape_of m)))

    module _ (y : Peeling) (e : SealsAndPeels K plan x t (Ok y) t') where
      criterion_holds : criterion (shape_of m) ≡ true
      unfolding seal_and_peel
      criterion_holds = ⊎_elim (λ holds. holds)
          (λ fails.
          let ghost = seal_ghost K m x t (kept K m life).long enough fails in
          absurd (not_both {a = done} {b = ghosts_remain K m} refl refl
          (ap (λ o. o.answer) (e ∙ ap (λ s. seal_and_peel K s x t) own ∙ ap (λ o. peeled_out K (shape_of m) o.answer o) ghost))))
          (cases_Bool (criterion (shape_of m)))

      -- the tile that was sealed
      begun : World S
      begun = peel_seal K (incidence (shape_of m)) (world_of blank t)

      accepted : seal K (shape_of m) x t ≡ peels_on begun done
      unfolding begun
      accepted = seal_accepted K m x t (kept K m life).long enough criterion_holds

      none_out_yet : (b : ℕ) → grants_of K m (event calls.seals done ∷ h) b ≡ 0
      unfolding since_seal out
      none_out_yet b = refl

      free : Free K m begun
      free = record {
        history = event calls.seals done ∷ h;
        life = subst (λ o. Life K m (event calls.seals o.answer ∷ h) o.stage o.tables) accepted (then life seal_does tt);
        none = none_out_yet;
      }

      peeled_so : world_of y t' ≡ turns K (shape_of m) (T K m) begun
      unfolding seal_and_peel
      peeled_so = ap (λ o. world_of (state_of o.stage blank) o.tables)
          (e ∙ ap (λ s. seal_and_peel K s x t) own ∙ ap (λ o. peeled_out K (shape_of m) o.answer o) accepted)

      pub at_rest : Rest K m (world_of y t')
      at_rest = subst (Rest K m) (sym peeled_so) (all_peeled K m begun free)

  -- Finish --------------------------------------------------------------------------------------------------------------
  module _ (holds : criterion (shape_of m) ≡ true) (x : Peeling) (t : Tables S) (rest : Rest K m (world_of x t)) where
    abbrev h : History
    h = rest.free.history

    life : Life K m h (peeling x) t
    life = rest.free.life

    facts : WhilePeeling K m h x t
    facts = (law K).lives m h (peeling x) t life

    all_found : (c : ℕ) → c < m.P * m.Q → Found K m h c
    all_found c l = ⊎_elim
        (λ miss.
        let w = facts.goes_on c l miss in
        absurd (⊎_elim (λ waits. rest.idle w.0 w.1 waits) (λ held. omega (arith, rest.free.none w.0)) w.3))
        (λ found. found) (cases_Bool (missing (incidence (shape_of m)) (since_seal h) c))

    none_missing : x.left ≡ 0
    none_missing = facts.left_is ∙ number_zero (m.P * m.Q) _ all_found

    none_held : x.out ≡ 0
    none_held = facts.out_is ∙ tally_zero (T K m) _ (λ b l. rest.free.none b)

    does : finish K (shape_of m) x t ≡ finish_outcome K (shape_of m) x t (finish_answers K (bins_of (shape_of m)) x t.sums)
    does = finish_is K m h x t (kept K m life)

    finish_served : (f : FinishedTile) → Finishes K plan x t (Ok f) → f ≡ pixels_of (shape plan) → Rebuilds K m before (served f) t
    finish_served f e size =
        let ends = ((calls_live K).finishes (shape plan) x t (Ok f) e).own m h own life tt in
        let done-facts = (law K).lives m (event calls.finishes done ∷ h) finished t ends in
        subst (λ n. Rebuilds K m before (served n) t) (sym (size ∙ ap pixels_of own)) (rebuilt ready holds (_, ends) done-facts.picture_agrees done-facts.no_other)

    left_over_is : (r : Refusal) → (finish K (shape_of m) x t).answer ≡ refused r → (i : ℕ) × (b : ℕ) × (r ≡ refusal 15 i b 0)
    unfolding finish_answers
    left_over_is r e = go (ltb (first_left_over K (bins_of (shape_of m)) t.sums) (bins_of (shape_of m))) refl
      where
        first : ℕ
        first = first_left_over K (bins_of (shape_of m)) t.sums

        answers_as : (b : Bool) → ltb first (bins_of (shape_of m)) ≡ b → finish_answers K (bins_of (shape_of m)) x t.sums ≡ cond b (left_over first) peel.served
        answers_as b f =
            cond-false (ltb 0 x.left) _ _ (le-ltb 0 x.left (omega (arith, none_missing)))
            ∙ cond-false (ltb 0 x.out) _ _ (le-ltb 0 x.out (omega (arith, none_held)))
            ∙ ap (λ u. cond u (left_over first) peel.served) f

        go : (b : Bool) → ltb first (bins_of (shape_of m)) ≡ b → (i : ℕ) × (b : ℕ) × (r ≡ refusal 15 i b 0)
        go true f = (
          place_at m.P m.Q (shape_of m).records first,
          bin_at m.P m.Q (shape_of m).records first,
          same_refusal (sym e ∙ ap (λ o. o.answer) does ∙ ap (λ a. (finish_outcome K (shape_of m) x t a).answer) (answers_as true f)),
        )
        go false f =
            absurd (not_both {a = done} {b = refused r} refl refl
            (sym (ap (λ o. o.answer) does ∙ ap (λ a. (finish_outcome K (shape_of m) x t a).answer) (answers_as false f)) ∙ e))

    finish_refused : (r : Refused Peeling) → Finishes K plan x t (Err r) → Rebuilds K m before (refuses (refusal_of r.fault)) t
    finish_refused r e =
        let answer : (finish K (shape_of m) x t).answer ≡ refused (refusal_of r.fault) =
        ap (λ s. (finish K s x t).answer) (sym own) ∙ sym (ap (λ o. o.answer) e) in
        let w = left_over_is (refusal_of r.fault) answer in
        subst (λ a. Rebuilds K m before (refuses a) t) (sym w.2)
        (contradicted ready holds (h, life) (answer ∙ ap refused w.2)
        (λ tile agrees. not_both {a = done} {b = refused (refusal_of r.fault)} refl refl
        (sym ((facts.finish_serves all_found (λ b l. rest.free.none b)).1 (tile, agrees)) ∙ answer)))

-- How a run begins ------------------------------------------------------------------------------------------------------
module _ {S : Type 0} (K : Operations S) (m : Meaning S) (plan : Plan) (lawful : Lawful (shape_of m)) (own : shape plan ≡ shape_of m) (before : Tables S) where
  pub begins : None ≡ short_refusal (short (shape plan) before) → Ready K m before
  begins e = record { lawful = lawful; long = subst (λ s. LongEnough s before) own (all_long (shape plan) before e) }

  pub short_refused : (r : Refusal) → Some r ≡ short_refusal (short (shape plan) before) → Rebuilds K m before (refuses r) before
  short_refused r e = go (short (shape plan) before) (ap (λ s. short s before) (sym own)) e
    where
      go : (n : ℕ) → short (shape_of m) before ≡ n → Some r ≡ short_refusal n → Rebuilds K m before (refuses r) before
      go zero is e = absurd cc
      go (suc k) is e = let same : r ≡ refusal 5 (suc k) 0 0 = cc in subst (λ a. Rebuilds K m before (refuses a) before) (sym same) (too_short lawful is)

  pub short_unready : (r : Refusal) → Some r ≡ short_refusal (short (shape plan) before) → ¬ (Ready K m before)
  short_unready r e ready = go (short (shape plan) before) (ap (λ s. short s before) own ∙ none_short (shape_of m) before ready.long) e
    where
      go : (n : ℕ) → n ≡ 0 → Some r ≡ short_refusal n → ⊥
      go zero is e = cc
      go (suc k) is e = omega arith

  pub short_steps : (r : Refusal) → Some r ≡ short_refusal (short (shape plan) before) → (refuses r, before) ≡ one_worker K m before
  unfolding one_worker
  short_steps r e = rw lawful (go (short (shape plan) before) (ap (λ s. short s before) (sym own)) e)
    where
      go : (n : ℕ) → short (shape_of m) before ≡ n → Some r ≡ short_refusal n → (refuses r, before) ≡ with_tables K m (short (shape_of m) before) before
      go zero is e = absurd cc
      go (suc k) is e = let same : r ≡ refusal 5 (suc k) 0 0 = cc in rw is (ap (λ a. (refuses a, before)) same)

  none_loaded : loaded_places (event calls.opens done ∷ []) ≡ 0
  unfolding loaded_places
  none_loaded = refl

  -- the calls of a run, one after another
  module _ (fits : None ≡ short_refusal (short (shape plan) before)) (x : Loading) (none : x ≡ 0) where
    is_ready : Ready K m before
    is_ready = begins fits

    first_life : Life K m (event calls.opens done ∷ []) (loading x) before
    first_life = subst (λ n. Life K m (event calls.opens done ∷ []) (loading n) before) (sym none) (born lawful is_ready.long)

    steps_are : one_worker K m before ≡ sealing K m (seal K (shape_of m) (length m.places) (loaded K m (length m.places) before))
    unfolding one_worker
    steps_are = rw (lawful, none_short (shape_of m) before is_ready.long) refl

    module _ (mid : Tables S) where
      pub loads_end : (r : Result Loading (Refused Loading)) → LoadsAll K m plan x before r mid → AllLoaded K m before r mid
      loads_end r loads = loads own (event calls.opens done ∷ []) first_life none_loaded

      module _ (y : Loading) (loads : LoadsAll K m plan x before (Ok y) mid) (t : Tables S) where
        loads_so : AllLoaded K m before (Ok y) mid
        loads_so = loads_end (Ok y) loads

        -- what is sealed
        loaded_so : seal K (shape_of m) y mid ≡ seal K (shape_of m) (length m.places) (loaded K m (length m.places) before)
        loaded_so = ap (λ n. seal K (shape_of m) n mid) ((kept K m loads_so.1).count ∙ loads_so.2)
            ∙ ap (seal K (shape_of m) (length m.places)) loads_so.3

        pub unsealed_steps : (r : Refused Loading) → SealsAndPeels K plan y mid (Err r) t → (refuses (refusal_of r.fault), t) ≡ one_worker K m before
        unsealed_steps r e = ap (sealing K m) (only_seals K plan y mid t r e ∙ ap (λ s. seal K s y mid) own ∙ loaded_so) ∙ sym steps_are

        pub run_unsealed : (r : Refused Loading) → SealsAndPeels K plan y mid (Err r) t → Rebuilds K m before (refuses (refusal_of r.fault)) t
        run_unsealed r e = seal_refused K m plan own before is_ready y mid t loads_so.0 loads_so.1 loads_so.2 r (only_seals K plan y mid t r e)

        module _ (w : Peeling) (peels : SealsAndPeels K plan y mid (Ok w) t) where
          passes : criterion (shape_of m) ≡ true
          passes = criterion_holds K m plan own before is_ready y mid t loads_so.0 loads_so.1 loads_so.2 w peels

          rests : Rest K m (world_of w t)
          rests = at_rest K m plan own before is_ready y mid t loads_so.0 loads_so.1 loads_so.2 w peels

          finishes_so : (r : Result FinishedTile (Refused Peeling)) → Finishes K plan w t r → outcomes.finish_outcome r t ≡ finish K (shape_of m) w t
          finishes_so r e = e ∙ ap (λ s. finish K s w t) own

          all_steps : one_worker K m before ≡ finishing K m (world_of w t)
          all_steps = steps_are ∙ ap (sealing K m) (sym loaded_so ∙ accepted K m plan own before is_ready y mid t loads_so.0 loads_so.1 loads_so.2 w peels)
              ∙ ap (finishing K m) (sym (peeled_so K m plan own before is_ready y mid t loads_so.0 loads_so.1 loads_so.2 w peels))

          pub served_steps : (f : FinishedTile) → Finishes K plan w t (Ok f) → f ≡ pixels_of (shape plan) → (served f, t) ≡ one_worker K m before
          served_steps f e size = ap (λ n. (served n, t)) (size ∙ ap pixels_of own)
              ∙ ap (λ o. ends K m o.answer t) (finishes_so (Ok f) e) ∙ sym all_steps

          pub unfinished_steps : (r : Refused Peeling) → Finishes K plan w t (Err r) → (refuses (refusal_of r.fault), t) ≡ one_worker K m before
          unfinished_steps r e = ap (λ o. ends K m o.answer t) (finishes_so (Err r) e) ∙ sym all_steps

          pub run_served : (f : FinishedTile) → Finishes K plan w t (Ok f) → f ≡ pixels_of (shape plan) → Rebuilds K m before (served f) t
          run_served = finish_served K m plan own before is_ready passes w t rests

          pub run_unfinished : (r : Refused Peeling) → Finishes K plan w t (Err r) → Rebuilds K m before (refuses (refusal_of r.fault)) t
          run_unfinished = finish_refused K m plan own before is_ready passes w t rests

-- A source that is not lawful.
pub unlawful_steps : {S : Type 0} (K : Operations S) (m : Meaning S) (before : Tables S) (r : Refusal) → verdict (shape_of m) ≡ Some r → (refuses r, before) ≡ one_worker K m before
unfolding one_worker
unlawful_steps K m before r e = rw e refl

-- Served exactly when it can be.
module _ {S : Type 0} (K : Operations S) (m : Meaning S) where
  pub serves_exactly : (before : Tables S) (a : answers.Answer) (after : Tables S) → Rebuilds K m before a after → ServesExactly K m before a
  serves_exactly before a after (unlawful {r} e) =
      (λ no_way. absurd no_way, λ can. let same : Some r ≡ None = sym e ∙ can.ready.lawful in let z : ◌≡◌ {A = ℕ} 0 1 = cc in absurd (omega arith))
  serves_exactly before a after (too_short {k} lawful e) =
      (λ no_way. absurd no_way, λ can. let z = none_short (shape_of m) before can.ready.long in absurd (omega arith))
  serves_exactly before a after (ghosted ready fails lived ghost) = (λ no_way. absurd no_way, λ can. absurd (true≢false (sym can.enough ∙ fails)))
  serves_exactly before a after (contradicted ready holds lived e none) = (λ no_way. absurd no_way, λ can. absurd (none can.tile can.agrees))
  serves_exactly before a after (rebuilt {after = t} ready holds lived agrees only) =
      (λ yes_way. record { ready = ready; enough = holds; tile = shown K m t; agrees = agrees }, λ can. tt)
