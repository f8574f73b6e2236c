-- What a load of the next place of a source leaves.
use Rattle.std.proofs.Common.{◌≡◌, ℕ, ◌+◌, ◌<◌, ◌≤◌, true, false, leb, length, Ok, Err, Result, replicate, sym, refl, ap, ◌∙◌, subst, ⊎_elim, arith}
use Rattle.std.proofs.lemmas.Bool.{cases_Bool, cond-false, le-ltb, lt-leb}
use Rattle.std.proofs.lemmas.List.{length-replicate}
use Rattle.samples.specs.declared.kind.Kind.{Ghosts as Operations}
use Rattle.mojette.specs.Faults.{refusal_of}
use Rattle.mojette.specs.Meaning.{Meaning, shape_of, pixels_of, bins_of}
use Rattle.mojette.specs.Refusals.{Refusal, refusal}
use Rattle.plan.specs.declared.plan.Plan.{Plan}
use Rattle.plan.specs.Shapes.{shape}
use Rattle.law.specs.Life.{LongEnough}
use Rattle.law.specs.Steps.{Stage, Tables, done, refused, served, load, fits, short_sums, with_place}
use Rattle.law.specs.Steps as stages
use Rattle.law.proofs.Loading.{load_next, with_next, records_number}
use Rattle.source.specs.Questions.{place_at}
use Rattle.tile.specs.declared.states.Loading.{Loading}
use Rattle.tile.specs.declared.states.Refused.{Refused}
use Rattle.tile.specs.Outcomes.{tables, load_outcome}

module _ {S : Type 0} (K : Operations S) (m : Meaning S) (plan : Plan) (own : shape plan ≡ shape_of m) (x : Loading) (t t' : Tables S)
    (room : bins_of (shape_of m) ≤ length t.sums) (next : x < length m.places) where
  -- the same sums, among tables that are long enough
  around : Tables S
  around = tables (replicate (pixels_of (shape_of m)) K.zero) (replicate (pixels_of (shape_of m)) 0) t.sums (replicate (bins_of (shape_of m)) 0) (replicate (bins_of (shape_of m)) 0)

  long : LongEnough (shape_of m) around
  unfolding around
  long = record {
    picture = omega (arith, length-replicate (pixels_of (shape_of m)) K.zero);
    marks = omega (arith, length-replicate {A = ℕ} (pixels_of (shape_of m)) 0);
    sums = room;
    counts = omega (arith, length-replicate {A = ℕ} (bins_of (shape_of m)) 0);
    queue = omega (arith, length-replicate {A = ℕ} (bins_of (shape_of m)) 0);
  }

  few : leb (length (shape_of m).records) x ≡ false
  few = lt-leb _ _ (subst (λ k. x < k) (sym (records_number K m)) next)

  sums_fit : (u : Tables S) → u.sums ≡ t.sums → short_sums (shape_of m) u ≡ 0
  unfolding short_sums
  sums_fit u same = cond-false _ 3 0 (le-ltb _ _ (subst (λ sums. bins_of (shape_of m) ≤ length sums) (sym same) room))

  -- what would be answered if the source did not fit itself
  misfit : fits (shape_of m) m x ≡ false → (load K (shape_of m) m x around).answer ≡ refused (refusal 7 0 0 0)
  unfolding load around
  misfit fails = rw (sums_fit around refl, few, fails) refl

  fit : fits (shape_of m) m x ≡ true
  fit = ⊎_elim (λ holds. holds)
      (λ fails. let e : refused (refusal 7 0 0 0) ≡ done = sym (misfit fails) ∙ ap (λ o. o.answer) (load_next K m x around long next) in absurd (never e))
      (cases_Bool (fits (shape_of m) m x))
    where
      never : {r : Refusal} → refused r ≡ done → ⊥
      never {r} e = cc

  next_load : load K (shape_of m) m x t ≡ served (stages.loading (x + 1)) (with_next K m x t) done
  unfolding load
  next_load = rw (sums_fit t refl, few, fit) refl

  does : (r : Result Loading (Refused Loading)) → load_outcome r t' ≡ load K (shape plan) m x t →
      load_outcome r t' ≡ served (stages.loading (x + 1)) (with_next K m x t) done
  does r e = e ∙ ap (λ s. load K s m x t) own ∙ next_load

  number : {i j : ℕ} → stages.loading i ≡ stages.loading j → i ≡ j
  number {i} {j} e = cc

  pub one_more : (y : Loading) → load_outcome (Ok y) t' ≡ load K (shape plan) m x t → y ≡ x + 1
  one_more y e = number (ap (λ o. o.stage) (does (Ok y) e))

  pub is_laid : (y : Loading) → load_outcome (Ok y) t' ≡ load K (shape plan) m x t → t'.sums ≡ with_place K (shape_of m) (place_at m x) x t.sums
  is_laid y e = ap (λ o. o.tables.sums) (does (Ok y) e)

  pub never_refused : (r : Refused Loading) → load_outcome (Err r) t' ≡ load K (shape plan) m x t → ⊥
  never_refused r e = let a : refused (refusal_of r.fault) ≡ done = ap (λ o. o.answer) (does (Err r) e) in cc
