-- The check of the tables, which comes first in a step.
use Rattle.std.proofs.Common.{◌≡◌, ℕ, zero, suc, ◌<◌, ◌≤◌, cond, ltb, false, true, ◌⊎◌, ◌↔◌, Some, None, sym, refl, ap, ◌∙◌, inl, inr, arith}
use Rattle.std.proofs.lemmas.Bool.{true≢false, cases_lt, cond-true, cond-false, lt-ltb, le-ltb, lt-leb}
use Rattle.mojette.specs.Meaning.{Shape, bins_of}
use Rattle.mojette.specs.Refusals.{Refusal}
use Rattle.law.specs.Steps.{Tables, short}
use Rattle.law.specs.Life.{LongEnough}
use Rattle.law.proofs.Sealing.{none_short}
use Rattle.tile.specs.Worlds.{short_refusal, refusal_at}

no_short : (n : ℕ) → None ≡ short_refusal n → n ≡ 0
no_short zero e = refl
no_short (suc n) e = absurd cc

-- a choice of a number that is not 0, and then another
past : (a b n x : ℕ) → cond (ltb a b) (suc n) x ≡ 0 → (b ≤ a) × (x ≡ 0)
past a b n x e = go (cases_lt a b)
  where
    go : (a < b) ⊎ (b ≤ a) → (b ≤ a) × (x ≡ 0)
    go (inl l) = let z : suc n ≡ 0 = sym (cond-true (ltb a b) (suc n) x (lt-ltb a b l)) ∙ e in absurd (omega arith)
    go (inr l) = (l, sym (cond-false (ltb a b) (suc n) x (le-ltb a b l)) ∙ e)

-- no table is too short
pub all_long : {S : Type 0} (shape : Shape) (t : Tables S) → None ≡ short_refusal (short shape t) → LongEnough shape t
unfolding short
all_long shape t e =
    let a = past _ _ _ _ (no_short (short shape t) e) in
    let b = past _ _ _ _ a.1 in
    let c = past _ _ _ _ b.1 in
    let d = past _ _ _ _ c.1 in
    let f = past _ _ _ _ d.1 in
    record { picture = a.0; marks = b.0; sums = c.0; counts = d.0; queue = f.0 }

pub all_long_at : {S : Type 0} (shape : Shape) (t : Tables S) (at : ℕ) → None ≡ refusal_at shape at (short shape t) → LongEnough shape t
all_long_at shape t at e = all_long shape t (go (short shape t) e)
  where
    go : (n : ℕ) → None ≡ refusal_at shape at n → None ≡ short_refusal n
    go zero e = refl
    go (suc n) e = e

-- Where a table is too short or there is no such position, a call that asks for both is not served.
pub not_served_at : {S : Type 0} (shape : Shape) (t : Tables S) (at : ℕ) (r : Refusal) → Some r ≡ refusal_at shape at (short shape t) →
    false ≡ true ↔ (LongEnough shape t × (at < bins_of shape))
not_served_at shape t at r e = (
  λ f. absurd (true≢false (sym f)),
  λ can.
      let none : Some r ≡ None = e ∙ ap (refusal_at shape at) (none_short shape t can.0) ∙ cond-false _ _ _ (lt-leb (bins_of shape) at can.1) in
      let z : ◌≡◌ {A = ℕ} 0 1 = cc in absurd (omega arith),
)
