-- Tallies and numbers over the indexes below a bound.
use Rattle.std.proofs.Common.{◌≡◌, ℕ, zero, suc, ◌+◌, ◌<◌, ◌≤◌, Bool, true, false, cond, ltb, sym, refl, ap, ◌∙◌, ⊎_elim, arith}
use Rattle.std.proofs.lemmas.Bool.{cases_eq, cases_Bool, ltb-true, ltb-false}
use Rattle.peeling.specs.Counting.{one_if, tally, number, least}

pub tally_same : (n : ℕ) (f g : ℕ → ℕ) → ((i : ℕ) → i < n → f i ≡ g i) → tally n f ≡ tally n g
unfolding tally
tally_same zero f g same = refl
tally_same (suc n) f g same =
    let rest = tally_same n f g (λ i l. same i (omega arith)) in
    let here = same n (omega arith) in
    omega arith

pub tally_zero : (n : ℕ) (f : ℕ → ℕ) → ((i : ℕ) → i < n → f i ≡ 0) → tally n f ≡ 0
unfolding tally
tally_zero zero f none = refl
tally_zero (suc n) f none =
    let rest = tally_zero n f (λ i l. none i (omega arith)) in
    let here = none n (omega arith) in
    omega arith

pub tally_le : (n : ℕ) (f : ℕ → ℕ) → ((i : ℕ) → i < n → f i ≤ 1) → tally n f ≤ n
unfolding tally
tally_le zero f few = omega arith
tally_le (suc n) f few =
    let rest = tally_le n f (λ i l. few i (omega arith)) in
    let here = few n (omega arith) in
    omega arith

pub tally_at : (n : ℕ) (f : ℕ → ℕ) (i : ℕ) → i < n → f i ≤ tally n f
unfolding tally
tally_at zero f i l = omega arith
tally_at (suc n) f i l = ⊎_elim
    (λ (e : i ≡ n). let here : f i ≡ f n = ap f e in omega arith)
    (λ (d : i ≡ n → ⊥). let rest = tally_at n f i (omega arith) in omega arith)
    (cases_eq i n)

-- two functions that differ at c alone
pub tally_change : (n : ℕ) (f g : ℕ → ℕ) (c : ℕ) → c < n → ((i : ℕ) → i < n → (i ≡ c → ⊥) → f i ≡ g i) → tally n f + g c ≡ tally n g + f c
unfolding tally
tally_change zero f g c l same = omega arith
tally_change (suc n) f g c l same = ⊎_elim
    (λ (e : c ≡ n).
    let rest = tally_same n f g (λ i k. same i (omega arith) (omega arith)) in
    let f-here : f c ≡ f n = ap f e in
    let g-here : g c ≡ g n = ap g e in
    omega arith)
    (λ (d : c ≡ n → ⊥).
    let rest = tally_change n f g c (omega arith) (λ i k. same i (omega arith)) in
    let here = same n (omega arith) (omega arith) in
    omega arith)
    (cases_eq c n)

pub number_same : (n : ℕ) (p q : ℕ → Bool) → ((i : ℕ) → i < n → p i ≡ q i) → number n p ≡ number n q
unfolding number
number_same n p q same = tally_same n _ _ (λ i l. ap one_if (same i l))

pub number_change : (n : ℕ) (p q : ℕ → Bool) (c : ℕ) → c < n → ((i : ℕ) → i < n → (i ≡ c → ⊥) → p i ≡ q i) → number n p + one_if (q c) ≡ number n q + one_if (p c)
unfolding number
number_change n p q c l same = tally_change n _ _ c l (λ i k d. ap one_if (same i k d))

pub number_some : (n : ℕ) (p : ℕ → Bool) (i : ℕ) → i < n → p i ≡ true → 1 ≤ number n p
unfolding number
number_some n p i l e =
    let here : one_if (p i) ≡ 1 = ap one_if e in
    let some : one_if (p i) ≤ tally n (λ k. one_if (p k)) = tally_at n (λ k. one_if (p k)) i l in
    omega arith

pub number_none : (n : ℕ) (p : ℕ → Bool) → number n p ≡ 0 → (i : ℕ) → i < n → p i ≡ false
number_none n p none i l = ⊎_elim
    (λ (e : p i ≡ true). let some = number_some n p i l e in absurd (omega arith))
    (λ (e : p i ≡ false). e)
    (cases_Bool (p i))

pub number_zero : (n : ℕ) (p : ℕ → Bool) → ((i : ℕ) → i < n → p i ≡ false) → number n p ≡ 0
unfolding number
number_zero n p none = tally_zero n _ (λ i l. ap one_if (none i l))

pub one_if_le : (b : Bool) → one_if b ≤ 1
one_if_le true = omega arith
one_if_le false = omega arith

pub number_le : (n : ℕ) (p : ℕ → Bool) → number n p ≤ n
unfolding number
number_le n p = tally_le n _ (λ i l. one_if_le (p i))

-- all but one index can pass at most
pub number_not_all : (n : ℕ) (p : ℕ → Bool) (i : ℕ) → i < n → p i ≡ false → number n p < n
unfolding number tally
number_not_all zero p i l e = omega arith
number_not_all (suc n) p i l e = ⊎_elim
    (λ (k : i ≡ n).
    let here : one_if (p n) ≡ 0 = ap (λ x. one_if (p x)) (sym k) ∙ ap one_if e in
    let rest : tally n (λ k. one_if (p k)) ≤ n = number_le n p in
    omega arith)
    (λ (d : i ≡ n → ⊥).
    let rest : tally n (λ k. one_if (p k)) < n = number_not_all n p i (omega arith) e in
    let here : one_if (p n) ≤ 1 = one_if_le (p n) in
    omega arith)
    (cases_eq i n)

-- where one index passes alone, two that pass are the same
pub number_alone : (n : ℕ) (p : ℕ → Bool) → number n p ≤ 1 → (i j : ℕ) → i < n → j < n → p i ≡ true → p j ≡ true → i ≡ j
unfolding number tally
number_alone zero p one i j k l e f = omega arith
number_alone (suc n) p one i j k l e f = ⊎_elim
    (λ (a : i ≡ n). ⊎_elim
    (λ (b : j ≡ n). omega arith)
    (λ (b : j ≡ n → ⊥).
    let here : one_if (p n) ≡ 1 = ap (λ x. one_if (p x)) (sym a) ∙ ap one_if e in
    let rest : 1 ≤ tally n (λ k. one_if (p k)) = number_some n p j (omega arith) f in
    omega arith)
    (cases_eq j n))
    (λ (a : i ≡ n → ⊥). ⊎_elim
    (λ (b : j ≡ n).
    let here : one_if (p n) ≡ 1 = ap (λ x. one_if (p x)) (sym b) ∙ ap one_if f in
    let rest : 1 ≤ tally n (λ k. one_if (p k)) = number_some n p i (omega arith) e in
    omega arith)
    (λ (b : j ≡ n → ⊥).
    number_alone n p (omega arith) i j (omega arith) (omega arith) e f)
    (cases_eq j n))
    (cases_eq i n)

-- the number of those that pass is one, where one passes alone
pub number_one : (n : ℕ) (p : ℕ → Bool) (c : ℕ) → c < n → p c ≡ true → ((i : ℕ) → i < n → p i ≡ true → i ≡ c) → number n p ≡ 1
number_one n p c l e only =
    let none = number_zero n (λ i. false) (λ i _. refl) in
    let change = number_change n p (λ i. false) c l (λ i k ne. ⊎_elim (λ (t : p i ≡ true). absurd (ne (only i k t))) (λ (t : p i ≡ false). t) (cases_Bool (p i))) in
    let one : one_if (p c) ≡ 1 = ap one_if e in
    omega arith

-- what `least` gives
pub least_le : (n : ℕ) (p : ℕ → Bool) → least n p ≤ n
unfolding least
least_le zero p = omega arith
least_le (suc n) p = go (ltb (least n p) n) (p n) (least_le n p)
  where
    go : (a b : Bool) → least n p ≤ n → cond a (least n p) (cond b n (suc n)) ≤ suc n
    go true b k = omega arith
    go false true k = omega arith
    go false false k = omega arith

pub least_passes : (n : ℕ) (p : ℕ → Bool) → least n p < n → p (least n p) ≡ true
unfolding least
least_passes zero p l = absurd (omega arith)
least_passes (suc n) p l = go (least_passes n p) (ltb (least n p) n) refl (p n) refl l
  where
    go : (least n p < n → p (least n p) ≡ true) → (a : Bool) → ltb (least n p) n ≡ a → (b : Bool) → p n ≡ b → cond a (least n p) (cond b n (suc n)) < suc n → p (cond a (least n p) (cond b n (suc n))) ≡ true
    go below true e b f k = below (ltb-true _ _ e)
    go below false e true f k = f
    go below false e false f k = absurd (omega arith)

pub least_none : (n : ℕ) (p : ℕ → Bool) → n ≤ least n p → (i : ℕ) → i < n → p i ≡ false
unfolding least
least_none zero p l i k = absurd (omega arith)
least_none (suc n) p l i k = go (least_none n p) (ltb (least n p) n) refl (p n) refl l
  where
    go : (n ≤ least n p → (j : ℕ) → j < n → p j ≡ false) → (a : Bool) → ltb (least n p) n ≡ a → (b : Bool) → p n ≡ b → suc n ≤ cond a (least n p) (cond b n (suc n)) → p i ≡ false
    go below true e b f m = let s = ltb-true _ _ e in absurd (omega arith)
    go below false e true f m = absurd (omega arith)
    go below false e false f m = ⊎_elim
        (λ (d : i ≡ n). ap p d ∙ f)
        (λ (d : i ≡ n → ⊥). below (ltb-false _ _ e) i (omega arith))
        (cases_eq i n)

pub least_same : (n : ℕ) (p q : ℕ → Bool) → ((i : ℕ) → i < n → p i ≡ q i) → least n p ≡ least n q
unfolding least
least_same zero p q same = refl
least_same (suc n) p q same =
    ap (λ k. cond (ltb k n) k (cond (p n) n (suc n))) (least_same n p q (λ i l. same i (omega arith)))
    ∙ ap (λ x. cond (ltb (least n q) n) (least n q) (cond x n (suc n))) (same n (omega arith))

pub least_some : (n : ℕ) (p : ℕ → Bool) → 1 ≤ number n p → least n p < n
least_some n p some = ⊎_elim
    (λ (e : ltb (least n p) n ≡ true). ltb-true _ _ e)
    (λ (e : ltb (least n p) n ≡ false). absurd (let z = number_zero n p (least_none n p (ltb-false _ _ e)) in omega arith))
    (cases_Bool (ltb (least n p) n))

-- the first index apart from the others
pub tally_front : (n : ℕ) (f : ℕ → ℕ) → tally (suc n) f ≡ f 0 + tally n (λ i. f (suc i))
unfolding tally
tally_front zero f = omega arith
tally_front (suc n) f = let rest : tally n f + f n ≡ f 0 + tally n (λ i. f (suc i)) = tally_front n f in omega arith

pub number_front : (n : ℕ) (p : ℕ → Bool) → number (suc n) p ≡ one_if (p 0) + number n (λ i. p (suc i))
unfolding number
number_front n p = tally_front n (λ i. one_if (p i))

pub number_more : (n : ℕ) (p : ℕ → Bool) → number (suc n) p ≡ number n p + one_if (p n)
unfolding number tally
number_more n p = refl

-- a test from its number
pub one_if_yes : (b : Bool) → 1 ≤ one_if b → b ≡ true
one_if_yes true l = refl
one_if_yes false l = absurd (omega arith)

pub one_if_no : (b : Bool) → one_if b ≡ 0 → b ≡ false
one_if_no true l = absurd (omega arith)
one_if_no false l = refl

pub number_all : (n : ℕ) (p : ℕ → Bool) → ((i : ℕ) → i < n → p i ≡ true) → number n p ≡ n
unfolding number tally
number_all zero p all = refl
number_all (suc n) p all =
    let rest : tally n (λ i. one_if (p i)) ≡ n = number_all n p (λ i l. all i (omega arith)) in
    let here : one_if (p n) ≡ 1 = ap one_if (all n (omega arith)) in
    omega arith
