-- A loop over a list that changes the cells that pass a test.
use Rattle.std.proofs.Common.{◌≡◌, ℕ, zero, suc, ◌<◌, ◌≤◌, Bool, true, false, ◌≢◌, List, length, get_or, set, sym, refl, ap, ◌∙◌, ⊎_elim, arith}
use Rattle.std.proofs.lemmas.List.{get_or-set_same, get_or-set_other, length-set}
use Rattle.std.proofs.lemmas.Bool.{cases_eq, both_ways}
use Rattle.peeling.specs.Steps.{filled}

module _ {X : Type 0} (d : X) (p : ℕ → Bool) (f : X → X) where
  -- ys is xs with f done to each cell below k that passes p
  pub record Changed (k : ℕ) (xs ys : List X) : Type 0 where
    pub long : length ys ≡ length xs
    pub hit : (b : ℕ) → b < k → p b ≡ true → get_or ys b d ≡ f (get_or xs b d)
    pub miss : (b : ℕ) → p b ≡ false → get_or ys b d ≡ get_or xs b d
    pub ahead : (b : ℕ) → k ≤ b → get_or ys b d ≡ get_or xs b d

  pub changed_none : (xs : List X) → Changed 0 xs xs
  changed_none xs = record {
    long = refl;
    hit = λ b l e. absurd (omega arith);
    miss = λ b e. refl;
    ahead = λ b l. refl;
  }

  pub changed_more : (k : ℕ) (xs ys : List X) → Changed k xs ys → k < length xs → p k ≡ true → Changed (suc k) xs (set ys k (f (get_or ys k d)))
  changed_more k xs ys c l e = record {
    long = length-set ys k (f (get_or ys k d)) ∙ c.long;
    hit = λ b m g. ⊎_elim
        (λ (i : b ≡ k). ap (λ x. get_or (set ys k (f (get_or ys k d))) x d) i ∙ here ∙ ap (λ x. f (get_or xs x d)) (sym i))
        (λ (i : b ≡ k → ⊥). get_or-set_other ys k b (f (get_or ys k d)) d i ∙ c.hit b (omega arith) g)
        (cases_eq b k);
    miss = λ b g. get_or-set_other ys k b (f (get_or ys k d)) d (λ i. both_ways (p b) g (ap p i ∙ e)) ∙ c.miss b g;
    ahead = λ b m. get_or-set_other ys k b (f (get_or ys k d)) d (omega arith) ∙ c.ahead b (omega arith);
  }
    where
      here : get_or (set ys k (f (get_or ys k d))) k d ≡ f (get_or xs k d)
      here = get_or-set_same ys k (f (get_or ys k d)) d (let m = c.long in omega arith) ∙ ap f (c.ahead k (omega arith))

  pub changed_skip : (k : ℕ) (xs ys : List X) → Changed k xs ys → p k ≡ false → Changed (suc k) xs ys
  changed_skip k xs ys c e = record {
    long = c.long;
    hit = λ b m g. c.hit b (let ne : b ≢ k = λ i. both_ways (p b) (ap p i ∙ e) g in omega arith) g;
    miss = c.miss;
    ahead = λ b m. c.ahead b (omega arith);
  }

pub length-filled : {X : Type 0} (n : ℕ) (f : ℕ → X) (xs : List X) → length (filled n f xs) ≡ length xs
unfolding filled
length-filled zero f xs = refl
length-filled (suc n) f xs = length-set (filled n f xs) n (f n) ∙ length-filled n f xs

pub get_or-filled : {X : Type 0} (n : ℕ) (f : ℕ → X) (xs : List X) (d : X) (i : ℕ) → n ≤ length xs → i < n → get_or (filled n f xs) i d ≡ f i
unfolding filled
get_or-filled zero f xs d i m l = absurd (omega arith)
get_or-filled (suc n) f xs d i m l = ⊎_elim
    (λ (e : i ≡ n). ap (λ x. get_or (set (filled n f xs) n (f n)) x d) e ∙ get_or-set_same (filled n f xs) n (f n) d (let k = length-filled n f xs in omega arith) ∙ ap f (sym e))
    (λ (e : i ≡ n → ⊥). get_or-set_other (filled n f xs) n i (f n) d e ∙ get_or-filled n f xs d i (omega arith) (omega arith))
    (cases_eq i n)
