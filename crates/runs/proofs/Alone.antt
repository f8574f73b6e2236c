-- Sealing and peeling in one call leads from a life of the tile to a later one.
use Rattle.std.proofs.Common.{◌≡◌, ◌<◌, ◌≤◌, length, Ok, Err, sym, refl, ap, ◌∙◌, ⊎_elim, arith}
use Rattle.std.proofs.lemmas.Bool.{cases_lt}
use Rattle.samples.specs.declared.kind.Kind.{Ghosts as Operations}
use Rattle.mojette.specs.Meaning.{Meaning, shape_of}
use Rattle.plan.specs.declared.plan.Plan.{Plan}
use Rattle.plan.specs.Shapes.{shape}
use Rattle.law.specs.Life.{History, Life, loaded_places}
use Rattle.law.specs.Steps.{loading, Tables, Answer, done, granted, settled, refused, Outcome, seal}
use Rattle.law.specs.Turns.{peeled_out, seal_and_peel}
use Rattle.law.proofs.Lives.{kept}
use Rattle.law.proofs.Outcome.{law}
use Rattle.tile.specs.declared.states.Loading.{Loading}
use Rattle.tile.specs.declared.states.Peeling.{Peeling}
use Rattle.tile.specs.Outcomes.{seal_outcome}
use Rattle.tile.proofs.Living.{calls_live}
use Rattle.runs.specs.Alone.{Rests, PeelsToRest}
use Rattle.runs.specs.Rebuilding.{Ready}
use Rattle.runs.proofs.Endings.{SealsAndPeels, only_seals, at_rest}

-- Where sealing and peeling is served, so is the seal.
also_seals : {S : Type 0} (K : Operations S) (plan : Plan) (x : Loading) (t t' : Tables S) (y : Peeling) → SealsAndPeels K plan x t (Ok y) t' →
    (seal K (shape plan) x t).answer ≡ done
unfolding seal_and_peel
also_seals {S} K plan x t t' y e = go (seal K (shape plan) x t) (seal K (shape plan) x t).answer refl e
  where
    go : (o : Outcome S) (a : Answer) → o.answer ≡ a → seal_outcome (Ok y) t' ≡ peeled_out K (shape plan) a o → a ≡ done
    go o done same e = refl
    go o (granted b) same e = let z : done ≡ granted b = ap (λ o. o.answer) e ∙ same in absurd cc
    go o (settled c n) same e = let z : done ≡ settled c n = ap (λ o. o.answer) e ∙ same in absurd cc
    go o (refused r) same e = let z : done ≡ refused r = ap (λ o. o.answer) e ∙ same in absurd cc

module _ {S : Type 0} (K : Operations S) (m : Meaning S) (h : History) (plan : Plan) (x : Loading) (t t' : Tables S) (own : shape plan ≡ shape_of m)
    (life : Life K m h (loading x) t) where
  all_loaded : (seal K (shape plan) x t).answer ≡ done → loaded_places h ≡ length m.places
  all_loaded served = ⊎_elim
      (λ (few : loaded_places h < length m.places).
      let waits = ((law K).lives m h (loading x) t life).seal_waits few in
      let both : done ≡ refused _ = sym served ∙ ap (λ s. (seal K s x t).answer) own ∙ waits in
      absurd cc)
      (λ (all : length m.places ≤ loaded_places h). let k = kept K m life in omega (arith, k.count, k.few))
      (cases_lt (loaded_places h) (length m.places))

  rests : (y : Peeling) → SealsAndPeels K plan x t (Ok y) t' → Rests K m y t'
  rests y e =
      let k = kept K m life in
      let ready : Ready K m t = record { lawful = k.lawful; long = k.long } in
      let r = at_rest K m plan own t ready x t t' h life (all_loaded (also_seals K plan x t t' y e)) y e in
      record { history = r.free.history; life = r.free.life; idle = r.idle; none_out = r.free.none }

pub peels_to_rest : {S : Type 0} (K : Operations S) → PeelsToRest K
peels_to_rest K = record {
  served = λ m h plan x t y t' own life e. rests K m h plan x t t' own life y e;
  refuses = λ m h plan x t e t' own life peels. ((calls_live K).seals (shape plan) x t t' (Err e) (only_seals K plan x t t' e peels)).own m h own life tt;
}
