-- Directions of a lawful list and their opposites turn one way, in two arrangements:
-- downward, all as they are; and rightward, first the opposites of those that go left, then the others.
use Rattle.std.proofs.Common.{◌≡◌, ℕ, zero, suc, ◌+◌, List, [], ◌∷◌, ◌++◌, map, ℤ, pos, negsuc, ◌*ℤ◌, neg_ℤ, nat_abs, ◌≤ℤ◌, ◌<ℤ◌, sym, refl, ap, ◌∙◌, subst, subst₂, arith}
use Rattle.std.proofs.lemmas.Int.{ints}
use Rattle.std.proofs.ByRecursion.{All-weaker, All-map, All-append}
use Rattle.std.specs.List.{AllByRecursion}
use Rattle.mojette.specs.declared.direction.Direction.{Direction}
use Rattle.mojette.specs.Directions.{LawfulDirections, columns, rows}
use Rattle.katz.proofs.Integers.{neg_mul_neg}
use Rattle.katz.proofs.Lawful.{Lawful, each_lawful}
use Rattle.katz.proofs.Order.{Before, EachBeforeLater, each_before_later}
use Rattle.katz.proofs.Edges.{Vector}
use Rattle.katz.proofs.Chain.{Turn, Pairwise, total, x_of, y_of}

abbrev pub along : Direction → Vector
along d = record { x = d.p; y = d.q }

abbrev pub against : Direction → Vector
against d = record { x = neg_ℤ d.p; y = neg_ℤ d.q }

pub downward : List Direction → List Vector
downward ds = map along ds

-- the vectors of the directions that do not go left
fore_of : ℤ → ℤ → List Vector → List Vector
fore_of (pos p) q vs = record { x = pos p; y = q } ∷ vs
fore_of (negsuc p) q vs = vs

fore : List Direction → List Vector
fore [] = []
fore (d ∷ ds) = fore_of d.p d.q (fore ds)

-- the opposites of those that do
back_of : ℤ → ℤ → List Vector → List Vector
back_of (pos p) q vs = vs
back_of (negsuc p) q vs = record { x = pos (suc p); y = neg_ℤ q } ∷ vs

back : List Direction → List Vector
back [] = []
back (d ∷ ds) = back_of d.p d.q (back ds)

pub rightward : List Direction → List Vector
rightward ds = back ds ++ fore ds

all_fore : (F : Vector → Type 0) (ds : List Direction) → AllByRecursion (λ d. pos 0 ≤ℤ d.p → F (along d)) ds → AllByRecursion F (fore ds)
unfolding fore fore_of
all_fore F [] h = tt
all_fore F (d ∷ ds) h = go d.p d.q h.0 (all_fore F ds h.1)
  where
    go : (p q : ℤ) → (pos 0 ≤ℤ p → F (record { x = p; y = q })) → AllByRecursion F (fore ds) → AllByRecursion F (fore_of p q (fore ds))
    go (pos p) q f a = (f (omega (arith, ints)), a)
    go (negsuc p) q f a = a

all_back : (F : Vector → Type 0) (ds : List Direction) → AllByRecursion (λ d. d.p <ℤ pos 0 → F (against d)) ds → AllByRecursion F (back ds)
unfolding back back_of
all_back F [] h = tt
all_back F (d ∷ ds) h = go d.p d.q h.0 (all_back F ds h.1)
  where
    go : (p q : ℤ) → (p <ℤ pos 0 → F (record { x = neg_ℤ p; y = neg_ℤ q })) → AllByRecursion F (back ds) → AllByRecursion F (back_of p q (back ds))
    go (pos p) q f a = a
    go (negsuc p) q f a = (f (omega (arith, ints)), a)

pub all_rightward : (F : Vector → Type 0) (ds : List Direction) → AllByRecursion (λ d. d.p <ℤ pos 0 → F (against d)) ds
    → AllByRecursion (λ d. pos 0 ≤ℤ d.p → F (along d)) ds → AllByRecursion F (rightward ds)
unfolding rightward
all_rightward F ds hb hf = All-append F (back ds) (fore ds) (all_back F ds hb) (all_fore F ds hf)

pub all_downward : (F : Vector → Type 0) (ds : List Direction) → AllByRecursion (λ d. F (along d)) ds → AllByRecursion F (downward ds)
unfolding downward
all_downward F ds h = All-map F along ds h

-- They turn one way ----------------------------------------------------------------------------------------------

pairwise_fore : (ds : List Direction) → EachBeforeLater ds → Pairwise (fore ds)
unfolding fore fore_of
pairwise_fore [] h = tt
pairwise_fore (d ∷ ds) h =
    go d.p d.q
    (all_fore (Turn (along d)) ds (All-weaker (Before d) (λ e. pos 0 ≤ℤ e.p → Turn (along d) (along e)) (λ e b _. b) ds h.0))
    (pairwise_fore ds h.1)
  where
    go : (p q : ℤ) → AllByRecursion (Turn (record { x = p; y = q })) (fore ds) → Pairwise (fore ds) → Pairwise (fore_of p q (fore ds))
    go (pos p) q a t = (a, t)
    go (negsuc p) q a t = t

opposite_turn : (d e : Direction) → Before d e → Turn (against d) (against e)
opposite_turn d e h = subst₂ ◌<ℤ◌ (sym (neg_mul_neg e.p d.q)) (sym (neg_mul_neg d.p e.q)) h

pairwise_back : (ds : List Direction) → EachBeforeLater ds → Pairwise (back ds)
unfolding back back_of
pairwise_back [] h = tt
pairwise_back (d ∷ ds) h =
    go d.p d.q
    (all_back (Turn (against d)) ds (All-weaker (Before d) (λ e. e.p <ℤ pos 0 → Turn (against d) (against e)) (λ e b _. opposite_turn d e b) ds h.0))
    (pairwise_back ds h.1)
  where
    go : (p q : ℤ) → AllByRecursion (Turn (record { x = neg_ℤ p; y = neg_ℤ q })) (back ds) → Pairwise (back ds) → Pairwise (back_of p q (back ds))
    go (pos p) q a t = t
    go (negsuc p) q a t = (a, t)

pairwise_append : (vs ws : List Vector) → Pairwise vs → Pairwise ws → AllByRecursion (λ v. AllByRecursion (Turn v) ws) vs → Pairwise (vs ++ ws)
pairwise_append [] ws hv hw h = hw
pairwise_append (v ∷ vs) ws hv hw h =
    (All-append (Turn v) vs ws hv.0 h.0, pairwise_append vs ws hv.1 hw h.1)

-- The opposite of a direction that goes left turns to any that does not.
turn_over : (d e : Direction) → Lawful d → Lawful e → d.p <ℤ pos 0 → pos 0 ≤ℤ e.p → Turn (against d) (along e)
turn_over d e ld le hd he = go d.p d.q e.p e.q ld.down le.down ld.level le.level hd he
  where
    go :
        (a m b n : ℤ) → pos 0 ≤ℤ m → pos 0 ≤ℤ n → (m ≡ pos 0 → a ≡ pos 1) → (n ≡ pos 0 → b ≡ pos 1) → a <ℤ pos 0 → pos 0 ≤ℤ b
        → (b *ℤ neg_ℤ m) <ℤ (neg_ℤ a *ℤ n)
    go a (negsuc m) b n hm hn la lb ha hb = absurd hm.le
    go a (pos m) b (negsuc n) hm hn la lb ha hb = absurd hn.le
    go a (pos zero) b (pos n) hm hn la lb ha hb = absurd (let e = la refl in omega (arith, ints))
    go (pos a) (pos (suc m)) b (pos n) hm hn la lb ha hb = absurd (omega (arith, ints))
    go (negsuc a) (pos (suc m)) (negsuc b) (pos n) hm hn la lb ha hb = absurd (omega (arith, ints))
    go (negsuc a) (pos (suc m)) (pos b) (pos zero) hm hn la lb ha hb =
        let e = lb refl in subst (λ (z : ℤ). (z *ℤ negsuc m) <ℤ (pos (suc a) *ℤ pos 0)) (sym e) (omega (arith, ints))
    go (negsuc a) (pos (suc m)) (pos b) (pos (suc n)) hm hn la lb ha hb = omega (arith, ints)

pub pairwise_downward : (ds : List Direction) → LawfulDirections ds → Pairwise (downward ds)
unfolding downward
pairwise_downward ds laws = go ds (each_before_later ds laws)
  where
    go : (ds : List Direction) → EachBeforeLater ds → Pairwise (map along ds)
    go [] h = tt
    go (d ∷ ds) h = (All-map (Turn (along d)) along ds h.0, go ds h.1)

pub pairwise_rightward : (ds : List Direction) → LawfulDirections ds → Pairwise (rightward ds)
unfolding rightward
pairwise_rightward ds laws =
    let s = each_before_later ds laws in
    pairwise_append (back ds) (fore ds) (pairwise_back ds s) (pairwise_fore ds s)
    (all_back (λ v. AllByRecursion (Turn v) (fore ds)) ds
    (All-weaker Lawful (λ d. d.p <ℤ pos 0 → AllByRecursion (Turn (against d)) (fore ds))
    (λ d ld hd. all_fore (Turn (against d)) ds
    (All-weaker Lawful (λ e. pos 0 ≤ℤ e.p → Turn (against d) (along e)) (λ e le he. turn_over d e ld le hd he) ds (each_lawful ds laws.each)))
    ds (each_lawful ds laws.each)))

-- And come to C columns and R rows --------------------------------------------------------------------------------

total_append : (f : Vector → ℤ) (vs ws : List Vector) → total f (vs ++ ws) ≡ total f vs + total f ws
total_append f [] ws = omega arith
total_append f (v ∷ vs) ws = let e = total_append f vs ws in omega arith

pub total_downward : (ds : List Direction) → total y_of (downward ds) ≡ rows ds
unfolding downward
total_downward [] = refl
total_downward (d ∷ ds) = ap (λ (n : ℕ). nat_abs d.q + n) (total_downward ds)

pub total_rightward : (ds : List Direction) → total x_of (rightward ds) ≡ columns ds
unfolding rightward fore fore_of back back_of
total_rightward ds = total_append x_of (back ds) (fore ds) ∙ go ds
  where
    one : (p q : ℤ) (vs ws : List Vector) → total x_of (back_of p q vs) + total x_of (fore_of p q ws) ≡ nat_abs p + (total x_of vs + total x_of ws)
    one (pos p) q vs ws = omega arith
    one (negsuc p) q vs ws = omega arith

    go : (ds : List Direction) → total x_of (back ds) + total x_of (fore ds) ≡ columns ds
    go [] = refl
    go (d ∷ ds) = one d.p d.q (back ds) (fore ds) ∙ ap (λ (n : ℕ). nat_abs d.p + n) (go ds)
