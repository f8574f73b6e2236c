-- The calls of a run: each load, and the turns of one worker.
use Rattle.std.proofs.Common.{◌≡◌, ℕ, zero, suc, ◌+◌, ◌<◌, ◌≤◌, true, false, eqb, ◌⊎◌, ◌∷◌, length, Ok, Err, Option, sym, refl, ap, ◌∙◌, subst, inl, inr, ⊎_elim, arith}
use Rattle.std.proofs.lemmas.Bool.{true≢false, eq-eqb}
use Rattle.samples.specs.declared.kind.Kind.{Ghosts as Operations}
use Rattle.mojette.specs.Faults.{refusal_of}
use Rattle.mojette.specs.Meaning.{Meaning, shape_of, bins_of}
use Rattle.mojette.specs.Refusals.{Refusal}
use Rattle.peeling.specs.Counting.{one_if}
use Rattle.peeling.specs.History.{out, settles}
use Rattle.peeling.specs.Steps.{World, Taken, none_waits, bad_cell, grants, take_answers}
use Rattle.peeling.specs.Steps.{take as peel_take, settle as peel_settle}
use Rattle.plan.specs.declared.plan.Plan.{Plan}
use Rattle.plan.specs.Shapes.{shape}
use Rattle.law.specs.Law.{T, Waits, grants_of, settles_of}
use Rattle.law.specs.Life.{History, Life, then, take_does, settle_does, event, is_served, loaded_places, since_seal}
use Rattle.law.specs.Life as calls
use Rattle.law.specs.Positions.{incidence}
use Rattle.law.specs.Steps.{loading, peeling, Tables, Answer, done, granted, settled, refused, refuse, peels_on, tables_of, load, take_outcome, take, finds, settle}
use Rattle.law.specs.Turns.{moved, spend, turn, turns, loaded}
use Rattle.law.proofs.Lives.{kept, take_is, settle_is, inside}
use Rattle.law.proofs.Loading.{load_next, records_number}
use Rattle.law.proofs.Outcome.{law}
use Rattle.tile.specs.declared.states.Loading.{Loading}
use Rattle.tile.specs.declared.states.Refused.{Refused}
use Rattle.tile.specs.Outcomes.{load_outcome}
use Rattle.tile.proofs.Living.{calls_live}

-- a served answer is no refusal
pub not_both : {a b : Answer} → is_served a ≡ true → is_served b ≡ false → a ≡ b → ⊥
not_both p q e = true≢false (sym p ∙ ap is_served e ∙ q)

module _ {S : Type 0} (K : Operations S) (m : Meaning S) (plan : Plan) (own : shape plan ≡ shape_of m) where
  -- Load ----------------------------------------------------------------------------------------------------------------
  module _ (x : Loading) (t t' : Tables S) (h : History) (life : Life K m h (loading x) t) where
    pub loaded_one : (y : Loading) → load_outcome (Ok y) t' ≡ load K (shape plan) m x t → Life K m (event calls.loads done ∷ h) (loading y) t'
    loaded_one y e = ((calls_live K).loads (shape plan) m x t t' (Ok y) e).own m h (own, refl) life tt

    -- the tables after one load more than n
    pub load_goes : (y : Loading) → load_outcome (Ok y) t' ≡ load K (shape plan) m x t → (n : ℕ) → loaded_places h ≡ n → (first : Tables S) → t ≡ loaded K m n first →
        t' ≡ loaded K m (n + 1) first
    load_goes y e n number first is =
        let one : suc n ≡ n + 1 = omega arith in
        ap (λ o. o.tables) e ∙ ap (λ s. (load K s m x t).tables) own
        ∙ ap (λ k. (load K (shape_of m) m k t).tables) ((kept K m life).count ∙ number)
        ∙ ap (λ u. (load K (shape_of m) m n u).tables) is ∙ ap (λ k. loaded K m k first) one

    pub load_serves : loaded_places h < length m.places → (r : Refused Loading) → load_outcome (Err r) t' ≡ load K (shape plan) m x t → ⊥
    load_serves few r e =
        let k = kept K m life in
        let next = load_next K m x t k.long (omega (arith, k.count)) in
        not_both {a = done} {b = refused (refusal_of r.fault)} refl refl
        (sym (ap (λ o. o.answer) next) ∙ ap (λ s. (load K s m x t).answer) (sym own) ∙ sym (ap (λ o. o.answer) e))

-- What a take and a settle change of the history --------------------------------------------------------------------------
module _ {S : Type 0} (K : Operations S) (m : Meaning S) (h : History) where
  pub loads_more : loaded_places (event calls.loads done ∷ h) ≡ loaded_places h + 1
  unfolding loaded_places
  loads_more = refl

  pub grant_is_out : (p : ℕ) → 0 < grants_of K m (event calls.takes (granted p) ∷ h) p
  unfolding since_seal out
  grant_is_out p = let e : eqb p p ≡ true = eq-eqb p p refl in let f = ap one_if e in omega arith

  module _ (p : ℕ) (c : Option ℕ) (n : ℕ) where
    abbrev after : History
    after = event (calls.settles p) (settled c n) ∷ event calls.takes (granted p) ∷ h

    pub none_out : ((b : ℕ) → grants_of K m h b ≡ 0) → (b : ℕ) → grants_of K m after b ≡ 0
    unfolding since_seal out
    none_out none b = let e = none b in omega arith

    pub one_settled : settles_of K m after ≡ settles_of K m h + 1
    unfolding since_seal settles
    one_settled = refl

-- the plan of a source has its places
pub same_number : {S : Type 0} (K : Operations S) (m : Meaning S) (plan : Plan) → shape plan ≡ shape_of m → length (shape plan).records ≡ length m.places
same_number K m plan own = ap (λ s. length s.records) own ∙ records_number K m

-- Turns, from a life of the tile with no grant out ------------------------------------------------------------------------
module _ {S : Type 0} (K : Operations S) (m : Meaning S) where
  -- a life that comes to this world, with no grant out
  pub record Free (w : World S) : Type 0 where
    pub history : History
    pub life : Life K m history (peeling w.state) (tables_of w)
    pub none : (b : ℕ) → grants_of K m history b ≡ 0

  -- A turn goes on with the life: a bin waited, and one settle more was served.
  record Moves (w : World S) (f : Free w) : Type 0 where
    at : ℕ
    below : at < T K m
    waited : Waits K m f.history at
    next : Free (turn K (shape_of m) w)
    more : settles_of K m next.history ≡ settles_of K m f.history + 1

  -- Nothing waits, and no grant is out.
  pub record Rest (w : World S) : Type 0 where
    pub free : Free w
    pub idle : (b : ℕ) → b < T K m → ¬ (Waits K m free.history b)

  module _ (w : World S) (f : Free w) where
    -- A turn changes nothing, and nothing waits; or it goes on with the life.
    one_turn : ((turn K (shape_of m) w ≡ w) × ((b : ℕ) → b < T K m → ¬ (Waits K m f.history b))) ⊎ Moves w f
    unfolding turn
    one_turn = go (take_answers (bins_of (shape_of m)) w.state w.queue) (take_is K m f.history w.state (tables_of w) (kept K m f.life))
      where
        -- a take that was refused
        stays : (r : Refusal) → take K (shape_of m) w.state (tables_of w) ≡ refuse (peeling w.state) (tables_of w) r →
            (turn K (shape_of m) w ≡ w) × ((b : ℕ) → b < T K m → ¬ (Waits K m f.history b))
        stays r e = (
          ap (λ o. spend K (shape_of m) o.answer (moved K (shape_of m) o w)) e,
          ((law K).lives m f.history (peeling w.state) (tables_of w) f.life).take_refuses.0 (r, ap (λ o. o.answer) e),
        )

        -- a take, and the settle of what it granted
        moves : (b : ℕ) → take K (shape_of m) w.state (tables_of w) ≡ peels_on (peel_take K (incidence (shape_of m)) w) (granted b) → Moves w f
        moves b e =
            let v = peel_take K (incidence (shape_of m)) w in
            let h = event calls.takes (granted b) ∷ f.history in
            let life : Life K m h (peeling v.state) (tables_of v) =
            subst (λ o. Life K m (event calls.takes o.answer ∷ f.history) o.stage o.tables) e (then f.life take_does tt) in
            let is-out = grant_is_out K m f.history b in
            let u = peel_settle K (incidence (shape_of m)) b v in
            let c = finds K (shape_of m) b v in
            let served : settle K (shape_of m) b v.state (tables_of v) ≡ peels_on u (settled c u.state.left) =
            settle_is K m h v.state (tables_of v) (kept K m life) b (inside K m h v.state (tables_of v) (kept K m life) b is-out) in
            let after : Life K m (event (calls.settles b) (settled c u.state.left) ∷ h) (peeling u.state) (tables_of u) =
            subst (λ o. Life K m (event (calls.settles b) o.answer ∷ h) o.stage o.tables) served (then life settle_does is-out) in
            let turned : turn K (shape_of m) w ≡ u =
            ap (λ o. spend K (shape_of m) o.answer (moved K (shape_of m) o w)) e ∙ ap (λ o. moved K (shape_of m) o v) served in
            let granting = ((law K).lives m f.history (peeling w.state) (tables_of w) f.life).take_grants b (ap (λ o. o.answer) e) in
            let last : (next : Free u) × (settles_of K m next.history ≡ settles_of K m f.history + 1) = (
              record { history = event (calls.settles b) (settled c u.state.left) ∷ h; life = after; none = none_out K m f.history b c u.state.left f.none },
              one_settled K m f.history b c u.state.left,
            ) in
            let here = subst (λ x. (next : Free x) × (settles_of K m next.history ≡ settles_of K m f.history + 1)) (sym turned) last in
            record { at = b; below = granting.0; waited = granting.1; next = here.0; more = here.1 }

        go : (a : Taken) → take K (shape_of m) w.state (tables_of w) ≡ take_outcome K (shape_of m) w.state (tables_of w) a →
            ((turn K (shape_of m) w ≡ w) × ((b : ℕ) → b < T K m → ¬ (Waits K m f.history b))) ⊎ Moves w f
        go none_waits e = inl (stays _ e)
        go (bad_cell i) e = inl (stays _ e)
        go (grants b) e = inr (moves b e)

  -- A turn at rest changes nothing.
  still : (w : World S) → Rest w → Rest (turn K (shape_of m) w)
  still w rest = ⊎_elim
      (λ (stays : (turn K (shape_of m) w ≡ w) × ((b : ℕ) → b < T K m → ¬ (Waits K m rest.free.history b))). subst Rest (sym stays.0) rest)
      (λ (moves : Moves w rest.free). absurd (rest.idle moves.at moves.below moves.waited))
      (one_turn w rest.free)

  module _ (w : World S) (f : Free w) where
    -- After n turns the tile is at rest, or n settles were served, or more.
    goes : (n : ℕ) → Rest (turns K (shape_of m) n w) ⊎ ((next : Free (turns K (shape_of m) n w)) × (n ≤ settles_of K m next.history))
    goes zero = inr (f, omega arith)
    goes (suc n) = ⊎_elim
        (λ (rest : Rest (turns K (shape_of m) n w)). inl (still (turns K (shape_of m) n w) rest))
        (λ (on : (next : Free (turns K (shape_of m) n w)) × (n ≤ settles_of K m next.history)). ⊎_elim
        (λ (stays : (turn K (shape_of m) (turns K (shape_of m) n w) ≡ turns K (shape_of m) n w) × ((b : ℕ) → b < T K m → ¬ (Waits K m on.0.history b))).
        inl (subst Rest (sym stays.0) (record { free = on.0; idle = stays.1 })))
        (λ (moves : Moves (turns K (shape_of m) n w) on.0). inr (moves.next, omega (arith, on.1, moves.more)))
        (one_turn (turns K (shape_of m) n w) on.0))
        (goes n)

    -- After as many turns as there are bins it is at rest: settles never outnumber them.
    pub all_peeled : Rest (turns K (shape_of m) (T K m) w)
    all_peeled = ⊎_elim
        (λ (rest : Rest (turns K (shape_of m) (T K m) w)). rest)
        (λ (on : (next : Free (turns K (shape_of m) (T K m) w)) × (T K m ≤ settles_of K m next.history)). ⊎_elim
        (λ (stays : (turn K (shape_of m) (turns K (shape_of m) (T K m) w) ≡ turns K (shape_of m) (T K m) w) × ((b : ℕ) → b < T K m → ¬ (Waits K m on.0.history b))).
        record { free = on.0; idle = stays.1 })
        (λ (moves : Moves (turns K (shape_of m) (T K m) w) on.0).
        let few = ((law K).lives m moves.next.history _ _ moves.next.life).settles_few in
        absurd (omega (arith, few, on.1, moves.more)))
        (one_turn (turns K (shape_of m) (T K m) w) on.0))
        (goes (T K m))
