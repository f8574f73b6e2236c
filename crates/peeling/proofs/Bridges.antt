-- What code that goes place by place needs of the steps, which go position by position.
use Rattle.std.proofs.Common.{◌≡◌, ℕ, zero, suc, ◌+◌, ◌-◌, ◌<◌, ◌≤◌, Bool, true, false, cond, ltb, refl, ap, ◌∙◌, ⊎_elim, arith}
use Rattle.std.proofs.lemmas.Bool.{cases_eq, cases_lt, cases_order, both_ways, cond-true, cond-false, ltb-false}
use Rattle.samples.specs.declared.kind.Kind.{Ghosts as Operations}
use Rattle.peeling.specs.Counting.{number, least}
use Rattle.peeling.specs.Incidence.{Incidence}
use Rattle.peeling.specs.Steps.{World, take_off, take_off_all}
use Rattle.peeling.proofs.Counts.{number_alone, least_le, least_passes, least_none, least_some}

-- none below the least index passes
pub least_below : (n : ℕ) (p : ℕ → Bool) (i : ℕ) → i < least n p → p i ≡ false
unfolding least
least_below zero p i l = absurd (omega arith)
least_below (suc n) p i l = go (least_below n p i) (ltb (least n p) n) refl (p n) refl l
  where
    go : (i < least n p → p i ≡ false) → (a : Bool) → ltb (least n p) n ≡ a → (b : Bool) → p n ≡ b → i < cond a (least n p) (cond b n (suc n)) → p i ≡ false
    go below true e b f m = below m
    go below false e true f m = least_none n p (ltb-false _ _ e) i m
    go below false e false f m = ⊎_elim
        (λ (d : i ≡ n). ap p d ∙ f)
        (λ (d : i ≡ n → ⊥). least_none n p (ltb-false _ _ e) i (omega arith))
        (cases_eq i n)

-- the least index that passes is the one below which none does
pub least_is : (n : ℕ) (p : ℕ → Bool) (k : ℕ) → k < n → p k ≡ true → ((i : ℕ) → i < k → p i ≡ false) → least n p ≡ k
least_is n p k l e below = ⊎_elim
    (λ (q : least n p ≡ k). q)
    (λ q. ⊎_elim
    (λ (r : least n p < k). absurd (both_ways (p (least n p)) (below (least n p) r) (least_passes n p (omega arith))))
    (λ (r : k < least n p). absurd (both_ways (p k) (least_below n p k r) e))
    q)
    (cases_order (least n p) k)

pub least_is_none : (n : ℕ) (p : ℕ → Bool) → ((i : ℕ) → i < n → p i ≡ false) → least n p ≡ n
least_is_none n p none = ⊎_elim
    (λ (m : least n p < n). absurd (both_ways (p (least n p)) (none (least n p) m) (least_passes n p m)))
    (λ (m : n ≤ least n p). let k = least_le n p in omega arith)
    (cases_lt (least n p) n)

-- the one index that passes is the least
pub least_alone : (n : ℕ) (p : ℕ → Bool) (k : ℕ) → number n p ≡ 1 → k < n → p k ≡ true → least n p ≡ k
least_alone n p k one l e =
    let m = least_some n p (omega arith) in
    number_alone n p (omega arith) (least n p) k m l (least_passes n p m) e

module _ {A : Type 0} (K : Operations A) (I : Incidence) (c : ℕ) (v : A) (w : World A) where
  step_off : (k : ℕ) → I.lies c k ≡ false → take_off_all K I c v (suc k) w ≡ take_off_all K I c v k w
  unfolding take_off_all
  step_off k e = cond-false (I.lies c k) _ _ e

  step_on : (k : ℕ) → I.lies c k ≡ true → take_off_all K I c v (suc k) w ≡ take_off K I.bins v k (take_off_all K I c v k w)
  unfolding take_off_all
  step_on k e = cond-true (I.lies c k) _ _ e

  -- none of the d bins from j on has the pixel, as in a lost place
  pub none_off : (j d : ℕ) → ((b : ℕ) → j ≤ b → b < j + d → I.lies c b ≡ false) → take_off_all K I c v (j + d) w ≡ take_off_all K I c v j w
  none_off j zero off = ap (λ x. take_off_all K I c v x w) (still j)
    where
      still : (j : ℕ) → j + 0 ≡ j
      still j = omega arith
  none_off j (suc d) off = ap (λ x. take_off_all K I c v x w) (along j d)
      ∙ step_off (j + d) (off (j + d) (omega arith) (omega arith))
      ∙ none_off j d (λ b l k. off b l (omega arith))
    where
      along : (j d : ℕ) → j + suc d ≡ suc (j + d)
      along j d = omega arith

  -- of the d bins from j on, bin j + i alone has the pixel, as in a whole place
  pub one_off : (j d i : ℕ) → i < d → I.lies c (j + i) ≡ true → ((b : ℕ) → j ≤ b → b < j + d → (b ≡ j + i → ⊥) → I.lies c b ≡ false) →
      take_off_all K I c v (j + d) w ≡ take_off K I.bins v (j + i) (take_off_all K I c v j w)
  one_off j d i l on off = ap (λ x. take_off_all K I c v x w) (parts j d i l)
      ∙ none_off (suc (j + i)) (d - suc i) (λ b m k. off b (omega arith) (omega arith) (omega arith))
      ∙ step_on (j + i) on
      ∙ ap (take_off K I.bins v (j + i)) (none_off j i (λ b m k. off b m (omega arith) (omega arith)))
    where
      parts : (j d i : ℕ) → i < d → j + d ≡ suc (j + i) + (d - suc i)
      parts j d i l = omega arith
