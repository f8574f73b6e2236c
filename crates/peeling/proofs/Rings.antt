-- A ring of cells that holds each position of a set once.
use Rattle.std.proofs.Common.{◌≡◌, ℕ, suc, ◌+◌, ◌-◌, ◌%◌, ◌<◌, ◌≤◌, Bool, true, false, ◌&&◌, ◌||◌, eqb, ltb, List, length, get_or, set, sym, refl, ap, ◌∙◌, subst, ⊎_elim, mod-lt, mod-eq_of_lt, arith}
use native.Mathlib.Nat.{mod-add-mod, mod-eq-sub-mod}
use Rattle.std.proofs.lemmas.List.{get_or-set_same, get_or-set_other, length-set}
use Rattle.std.proofs.lemmas.Bool.{cases_eq, cases_lt, lt-ltb, le-ltb, eq-eqb, ne_eqb, or_right}
use Rattle.peeling.specs.Counting.{one_if, number}
use Rattle.peeling.proofs.Bools.{or_false}
use Rattle.peeling.proofs.Counts.{number_same, number_change, number_zero, number_some, number_not_all, number_front, number_more, one_if_yes}

-- within T steps of each other, two cells are apart
cells_apart : (T h i n : ℕ) → i < n → n < i + T → (h + i) % T ≡ (h + n) % T → ⊥
cells_apart T h i n l k e =
    let r : ℕ = (h + i) % T in
    let d : ℕ = n - i in
    let small : (h + i) % T < T = mod-lt (h + i) (omega arith) in
    let sum : h + n ≡ (h + i) + (n - i) = omega arith in
    let next : (h + n) % T ≡ ((h + i) % T + (n - i)) % T = ap (λ x. x % T) sum ∙ sym (mod-add-mod (h + i) T (n - i)) in
    ⊎_elim
    (λ (b : (h + i) % T + (n - i) < T).
    let z : ((h + i) % T + (n - i)) % T ≡ (h + i) % T + (n - i) = mod-eq_of_lt b in
    omega arith)
    (λ (b : T ≤ (h + i) % T + (n - i)).
    let z : ((h + i) % T + (n - i)) % T ≡ ((h + i) % T + (n - i) - T) % T = mod-eq-sub-mod b in
    let y : ((h + i) % T + (n - i) - T) % T ≡ (h + i) % T + (n - i) - T = mod-eq_of_lt (omega arith) in
    omega arith)
    (cases_lt ((h + i) % T + (n - i)) T)

-- what stands i cells behind the head
abbrev pub slot : ℕ → ℕ → List ℕ → ℕ → ℕ
slot T h q i = get_or q ((h + i) % T) 0

-- The n cells from the head hold the positions of W, each once.
pub record Ring (T h n : ℕ) (q : List ℕ) (W : ℕ → Bool) : Type 0 where
  pub long : T ≤ length q
  pub inside : (i : ℕ) → i < n → slot T h q i < T
  pub holds : (b : ℕ) → b < T → number n (λ i. eqb (slot T h q i) b) ≡ one_if (W b)
  pub size : n ≡ number T W

pub ring_none : (T : ℕ) (q : List ℕ) (W : ℕ → Bool) → T ≤ length q → ((b : ℕ) → b < T → W b ≡ false) → Ring T 0 0 q W
ring_none T q W long none = record {
  long = long;
  inside = λ i l. absurd (omega arith);
  holds = λ b l. number_zero 0 _ (λ i k. absurd (omega arith)) ∙ sym (ap one_if (none b l));
  size = sym (number_zero T W none);
}

pub ring_same : (T h n : ℕ) (q : List ℕ) (V W : ℕ → Bool) → Ring T h n q V → ((b : ℕ) → b < T → V b ≡ W b) → Ring T h n q W
ring_same T h n q V W r same = record {
  long = r.long;
  inside = r.inside;
  holds = λ b l. r.holds b l ∙ ap one_if (same b l);
  size = r.size ∙ number_same T V W same;
}

-- one position more, behind the others
pub ring_append : (T h n : ℕ) (q : List ℕ) (V W : ℕ → Bool) (b : ℕ) → Ring T h n q V → b < T → V b ≡ false → W b ≡ true →
    ((a : ℕ) → a < T → (a ≡ b → ⊥) → V a ≡ W a) → (n < T) × Ring T h (n + 1) (set q ((h + n) % T) b) W
ring_append T h n q V W b r inside was now same = (
  room,
  record {
    long = rw length-set r.long;
    inside = λ i l. ⊎_elim
        (λ (e : i ≡ n). subst (λ x. x < T) (sym (last i e)) inside)
        (λ (d : i ≡ n → ⊥). subst (λ x. x < T) (sym (earlier i (omega arith))) (r.inside i (omega arith)))
        (cases_eq i n);
    holds = λ a l. ap (λ x. number x (λ i. eqb (slot T h q' i) a)) one ∙ number_more n (λ i. eqb (slot T h q' i) a) ∙ count a l;
    size =
        let e = number_change T V W b inside same in
        let p : one_if (V b) ≡ 0 = ap one_if was in
        let s : one_if (W b) ≡ 1 = ap one_if now in
        let t = r.size in
        omega arith;
  },
)
  where
    q' : List ℕ
    q' = set q ((h + n) % T) b

    one : n + 1 ≡ suc n
    one = omega arith

    room : n < T
    room = let t = r.size in let k = number_not_all T V b inside was in omega arith

    earlier : (i : ℕ) → i < n → slot T h (set q ((h + n) % T) b) i ≡ slot T h q i
    earlier i l = get_or-set_other q ((h + n) % T) ((h + i) % T) b 0 (cells_apart T h i n l (let k = room in omega arith))

    last : (i : ℕ) → i ≡ n → slot T h (set q ((h + n) % T) b) i ≡ b
    last i e = ap (λ x. slot T h (set q ((h + n) % T) b) x) e
        ∙ get_or-set_same q ((h + n) % T) b 0 (let k = mod-lt (h + n) {m = T} (omega arith) in let j = r.long in omega arith)

    count : (a : ℕ) → a < T → number n (λ i. eqb (slot T h (set q ((h + n) % T) b) i) a) + one_if (eqb (slot T h (set q ((h + n) % T) b) n) a) ≡ one_if (W a)
    count a l =
        let old : number n (λ i. eqb (slot T h (set q ((h + n) % T) b) i) a) ≡ one_if (V a) =
        number_same n _ _ (λ i k. ap (λ x. eqb x a) (earlier i k)) ∙ r.holds a l in
        let new : one_if (eqb (slot T h (set q ((h + n) % T) b) n) a) ≡ one_if (eqb b a) = ap (λ x. one_if (eqb x a)) (last n refl) in
        ⊎_elim
        (λ (e : a ≡ b).
        let k : one_if (eqb b a) ≡ 1 = ap one_if (eq-eqb b a (sym e)) in
        let v : one_if (V a) ≡ 0 = ap (λ x. one_if (V x)) e ∙ ap one_if was in
        let w : one_if (W a) ≡ 1 = ap (λ x. one_if (W x)) e ∙ ap one_if now in
        omega arith)
        (λ (d : a ≡ b → ⊥).
        let k : one_if (eqb b a) ≡ 0 = ap one_if (ne_eqb b a (λ e. d (sym e))) in
        let v : one_if (V a) ≡ one_if (W a) = ap one_if (same a l d) in
        omega arith)
        (cases_eq a b)

-- what stands at the head is one of the positions
pub ring_front : (T h n : ℕ) (q : List ℕ) (V : ℕ → Bool) → Ring T h n q V → 0 < n → (get_or q (h % T) 0 < T) × (V (get_or q (h % T) 0) ≡ true)
ring_front T h n q V r some = (inside, one_if_yes _ (let e = r.holds (get_or q (h % T) 0) inside in let k = number_some n (λ i. eqb (slot T h q i) (get_or q (h % T) 0)) 0 some (eq-eqb _ _ at) in omega arith))
  where
    at : slot T h q 0 ≡ get_or q (h % T) 0
    at = ap (λ x. get_or q (x % T) 0) zero_more
      where
        zero_more : h + 0 ≡ h
        zero_more = omega arith

    inside : get_or q (h % T) 0 < T
    inside = subst (λ x. x < T) at (r.inside 0 some)

-- the position at the head is taken
pub ring_take : (T h n : ℕ) (q : List ℕ) (V W : ℕ → Bool) → Ring T h n q V → 0 < n → W (get_or q (h % T) 0) ≡ false →
    ((a : ℕ) → a < T → (a ≡ get_or q (h % T) 0 → ⊥) → V a ≡ W a) → Ring T ((h + 1) % T) (n - 1) q W
ring_take T h n q V W r some now same = record {
  long = r.long;
  inside = λ i l. subst (λ x. x < T) (sym (next i)) (r.inside (suc i) (omega arith));
  holds = λ a l. number_same (n - 1) _ _ (λ i k. ap (λ x. eqb x a) (next i)) ∙ count a l;
  size =
      let e = number_change T V W b front.0 same in
      let p : one_if (V b) ≡ 1 = ap one_if front.1 in
      let s : one_if (W b) ≡ 0 = ap one_if now in
      let t = r.size in
      omega arith;
}
  where
    b : ℕ
    b = get_or q (h % T) 0

    front : (get_or q (h % T) 0 < T) × (V (get_or q (h % T) 0) ≡ true)
    front = ring_front T h n q V r some

    at : slot T h q 0 ≡ get_or q (h % T) 0
    at = ap (λ x. get_or q (x % T) 0) (zero_more h)
      where
        zero_more : (x : ℕ) → x + 0 ≡ x
        zero_more x = omega arith

    next : (i : ℕ) → slot T ((h + 1) % T) q i ≡ slot T h q (suc i)
    next i = ap (λ x. get_or q x 0) (mod-add-mod (h + 1) T i ∙ ap (λ x. x % T) (along i))
      where
        along : (i : ℕ) → h + 1 + i ≡ h + suc i
        along i = omega arith

    count : (a : ℕ) → a < T → number (n - 1) (λ i. eqb (slot T h q (suc i)) a) ≡ one_if (W a)
    count a l =
        let all : number (suc (n - 1)) (λ i. eqb (slot T h q i) a) ≡ one_if (V a) =
        ap (λ x. number x (λ i. eqb (slot T h q i) a)) (back n some) ∙ r.holds a l in
        let parts = number_front (n - 1) (λ i. eqb (slot T h q i) a) in
        let first : one_if (eqb (slot T h q 0) a) ≡ one_if (eqb (get_or q (h % T) 0) a) = ap (λ x. one_if (eqb x a)) at in
        ⊎_elim
        (λ (e : a ≡ get_or q (h % T) 0).
        let k : one_if (eqb (get_or q (h % T) 0) a) ≡ 1 = ap one_if (eq-eqb _ a (sym e)) in
        let v : one_if (V a) ≡ 1 = ap (λ x. one_if (V x)) e ∙ ap one_if front.1 in
        let w : one_if (W a) ≡ 0 = ap (λ x. one_if (W x)) e ∙ ap one_if now in
        omega arith)
        (λ (d : a ≡ get_or q (h % T) 0 → ⊥).
        let k : one_if (eqb (get_or q (h % T) 0) a) ≡ 0 = ap one_if (ne_eqb _ a (λ e. d (sym e))) in
        let v : one_if (V a) ≡ one_if (W a) = ap one_if (same a l d) in
        omega arith)
        (cases_eq a (get_or q (h % T) 0))
      where
        back : (n : ℕ) → 0 < n → suc (n - 1) ≡ n
        back n l = omega arith

-- W, and those below k that pass X
abbrev pub up_to : (ℕ → Bool) → (ℕ → Bool) → ℕ → ℕ → Bool
up_to W X k b = W b || (ltb b k && X b)

ltb_step : (a k : ℕ) → (a ≡ k → ⊥) → ltb a k ≡ ltb a (suc k)
ltb_step a k d = ⊎_elim
    (λ (l : a < k). lt-ltb a k l ∙ sym (lt-ltb a (suc k) (omega arith)))
    (λ (l : k ≤ a). le-ltb a k l ∙ sym (le-ltb a (suc k) (omega arith)))
    (cases_lt a k)

up_to_here : (W X : ℕ → Bool) (k : ℕ) → up_to W X k k ≡ W k
up_to_here W X k = ap (λ x. W k || (x && X k)) (le-ltb k k (omega arith)) ∙ or_false (W k)

up_to_next : (W X : ℕ → Bool) (k : ℕ) → up_to W X (suc k) k ≡ (W k || X k)
up_to_next W X k = ap (λ x. W k || (x && X k)) (lt-ltb k (suc k) (omega arith))

up_to_other : (W X : ℕ → Bool) (k a : ℕ) → (a ≡ k → ⊥) → up_to W X k a ≡ up_to W X (suc k) a
up_to_other W X k a d = ap (λ x. W a || (x && X a)) (ltb_step a k d)

pub up_to_none : (W X : ℕ → Bool) (b : ℕ) → up_to W X 0 b ≡ W b
up_to_none W X b = ap (λ x. W b || (x && X b)) (le-ltb b 0 (omega arith)) ∙ or_false (W b)

pub up_to_all : (W X : ℕ → Bool) (k b : ℕ) → b < k → up_to W X k b ≡ (W b || X b)
up_to_all W X k b l = ap (λ x. W b || (x && X b)) (lt-ltb b k l)

-- a loop over the positions: one that passes is appended, any other is not
pub ring_more : (T h n : ℕ) (q : List ℕ) (W X : ℕ → Bool) (k : ℕ) → Ring T h n q (up_to W X k) → k < T → X k ≡ true → W k ≡ false →
    (n < T) × Ring T h (n + 1) (set q ((h + n) % T) k) (up_to W X (suc k))
ring_more T h n q W X k r l x w = ring_append T h n q (up_to W X k) (up_to W X (suc k)) k r l
    (up_to_here W X k ∙ w)
    (up_to_next W X k ∙ or_right (W k) (X k) x)
    (λ a i d. up_to_other W X k a d)

pub ring_skip : (T h n : ℕ) (q : List ℕ) (W X : ℕ → Bool) (k : ℕ) → Ring T h n q (up_to W X k) → X k ≡ false → Ring T h n q (up_to W X (suc k))
ring_skip T h n q W X k r x = ring_same T h n q (up_to W X k) (up_to W X (suc k)) r (λ a i. ⊎_elim
    (λ (e : a ≡ k). ap (up_to W X k) e ∙ up_to_here W X k ∙ sym (ap (up_to W X (suc k)) e ∙ up_to_next W X k ∙ ap (λ y. W k || y) x ∙ or_false (W k)))
    (λ (d : a ≡ k → ⊥). up_to_other W X k a d)
    (cases_eq a k))
