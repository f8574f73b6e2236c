-- The order of directions: each of a lawful list stands before all later ones, so that some of them are lawful and in order too.
use Rattle.std.proofs.Common.{◌≡◌, zero, suc, Bool, true, false, cond, List, [], ◌∷◌, map, ℤ, pos, negsuc, ◌*ℤ◌, ◌≤ℤ◌, ◌<ℤ◌, refl, subst, arith}
use lib.Signed.{lt_z, clash_ℤ, <ℤ-≤ℤ_trans}
use Rattle.std.proofs.lemmas.Int.{ints, by_lt_z}
use Rattle.std.proofs.lemmas.Bool.{and_parts, and_from}
use Rattle.std.specs.List.{AllByRecursion}
use Rattle.mojette.specs.declared.direction.Direction.{Direction}
use Rattle.mojette.specs.declared.direction.Record.{Record}
use Rattle.mojette.specs.Bins.{whole, whole_directions}
use Rattle.mojette.specs.Directions.{lawful, before, all_lawful, in_order, LawfulDirections}
use Rattle.katz.proofs.Integers.{mul_swap, mul_mono, mul_strict}
use Rattle.katz.proofs.Lawful.{Lawful, each_lawful}

-- (p, q) stands before (p', q')
abbrev pub Before : Direction → Direction → Type 0
Before d e = (e.p *ℤ d.q) <ℤ (d.p *ℤ e.q)

abbrev pub EachBeforeLater : List Direction → Type 0
EachBeforeLater [] = Unit {0}
EachBeforeLater (d ∷ ds) = AllByRecursion (Before d) ds × EachBeforeLater ds

not_level : (q n p a : ℤ) → pos 0 ≤ℤ q → pos 0 ≤ℤ n → (q ≡ pos 0 → p ≡ pos 1) → (p *ℤ n) <ℤ (a *ℤ q) → pos 0 <ℤ q
not_level (pos zero) n p a hq hn level h =
    let h' : (pos 1 *ℤ n) <ℤ (a *ℤ pos 0) = subst (λ (z : ℤ). (z *ℤ n) <ℤ (a *ℤ pos 0)) (level refl) h in
    absurd (omega (arith, ints))
not_level (pos (suc q)) n p a hq hn level h = omega (arith, ints)
not_level (negsuc q) n p a hq hn level h = absurd hq.le

-- Only the first direction can be level.
positive_after : (d e : Direction) → Lawful d → Lawful e → Before d e → pos 0 <ℤ e.q
positive_after d e ld le h = not_level e.q d.q e.p d.p le.down ld.down le.level h

turn_trans :
    (a b c l m n : ℤ) → pos 0 ≤ℤ l → pos 0 <ℤ m → pos 0 <ℤ n → (b *ℤ l) <ℤ (a *ℤ m) → (c *ℤ m) <ℤ (b *ℤ n)
    → (c *ℤ l) <ℤ (a *ℤ n)
turn_trans a b c l (negsuc m) n hl hm hn h₁ h₂ = absurd hm.lt
turn_trans a b c l (pos m) (negsuc n) hl hm hn h₁ h₂ = absurd hn.lt
turn_trans a b c l (pos zero) (pos n) hl hm hn h₁ h₂ = absurd (omega (arith, ints))
turn_trans a b c l (pos (suc m)) (pos zero) hl hm hn h₁ h₂ = absurd (omega (arith, ints))
turn_trans a b c l (pos (suc m)) (pos (suc n)) hl hm hn h₁ h₂ =
    by_lt_z (c *ℤ l) (a *ℤ pos (suc n)) (λ h. h)
    (λ (h : (a *ℤ pos (suc n)) ≤ℤ (c *ℤ l)).
    let k₁ : ((b *ℤ l) *ℤ pos (suc n)) <ℤ ((a *ℤ pos (suc n)) *ℤ pos (suc m)) =
    rw (mul_swap a (pos (suc n)) (pos (suc m))) (mul_strict (b *ℤ l) (a *ℤ pos (suc m)) n h₁) in
    let k₂ : ((c *ℤ l) *ℤ pos (suc m)) ≤ℤ ((b *ℤ l) *ℤ pos (suc n)) =
    rw (mul_swap c l (pos (suc m)), mul_swap b l (pos (suc n))) (mul_mono (c *ℤ pos (suc m)) (b *ℤ pos (suc n)) l hl (weaker h₂)) in
    let k₃ = mul_mono (a *ℤ pos (suc n)) (c *ℤ l) (pos (suc m)) (omega (arith, ints)) h in
    clash_ℤ (<ℤ-≤ℤ_trans k₁ k₃) k₂)
  where
    weaker : {y z : ℤ} → y <ℤ z → y ≤ℤ z
    weaker h = omega (arith, ints)

before_trans : (d e f : Direction) → Lawful d → Lawful e → Lawful f → Before d e → Before e f → Before d f
before_trans d e f ld le lf h₁ h₂ =
    turn_trans d.p e.p f.p d.q e.q f.q ld.down (positive_after d e ld le h₁) (positive_after e f le lf h₂) h₁ h₂

before_all :
    (d e : Direction) (ds : List Direction) → Lawful d → Lawful e → AllByRecursion Lawful ds → Before d e → AllByRecursion (Before e) ds → AllByRecursion (Before d) ds
before_all d e [] ld le ls h hs = tt
before_all d e (f ∷ ds) ld le ls h hs = (before_trans d e f ld le ls.0 h hs.0, before_all d e ds ld le ls.1 h hs.1)

before_is : (d e : Direction) → before d e ≡ true → Before d e
before_is d e h = go (e.p *ℤ d.q) (d.p *ℤ e.q) h
  where
    go : (a b : ℤ) → lt_z a b ≡ true → a <ℤ b
    go a b h = omega (arith, ints)

sorted : (ds : List Direction) → AllByRecursion Lawful ds → in_order ds ≡ true → EachBeforeLater ds
sorted [] ls h = tt
sorted (d ∷ []) ls h = (tt, tt)
sorted (d ∷ e ∷ ds) ls h =
    let t = and_parts (before d e) (in_order (e ∷ ds)) h in
    let b = before_is d e t.0 in
    let s = sorted (e ∷ ds) ls.1 t.1 in
    ((b, before_all d e ds ls.0 ls.1.0 ls.1.1 b s.0), s)

-- In a lawful list each direction stands before all later ones.
pub each_before_later : (ds : List Direction) → LawfulDirections ds → EachBeforeLater ds
each_before_later ds l = sorted ds (each_lawful ds l.each) l.ordered

-- Back to the tests -----------------------------------------------------------------------------------------------

before_from : (d e : Direction) → Before d e → before d e ≡ true
before_from d e h = go (e.p *ℤ d.q) (d.p *ℤ e.q) h
  where
    go : (a b : ℤ) → a <ℤ b → lt_z a b ≡ true
    go a b h = grind (arith, ints)

in_order_from : (ds : List Direction) → EachBeforeLater ds → in_order ds ≡ true
in_order_from [] h = refl
in_order_from (d ∷ []) h = refl
in_order_from (d ∷ e ∷ ds) h = and_from _ _ (before_from d e h.0.0) (in_order_from (e ∷ ds) h.1)

-- What holds of the directions of all places holds of those of the whole ones.
pub whole_all : (R : Direction → Type 0) (es : List Record) → AllByRecursion R (map (λ e. e.direction) es) → AllByRecursion R (whole_directions es)
whole_all R [] all = tt
whole_all R (e ∷ es) all = go (whole e) (whole_all R es all.1)
  where
    go : (t : Bool) → AllByRecursion R (whole_directions es) → AllByRecursion R (cond t (e.direction ∷ whole_directions es) (whole_directions es))
    go true later = (all.0, later)
    go false later = later

whole_lawful_each : (es : List Record) → all_lawful (map (λ e. e.direction) es) ≡ true → all_lawful (whole_directions es) ≡ true
whole_lawful_each [] h = refl
whole_lawful_each (e ∷ es) h =
    let t = and_parts (lawful e.direction) (all_lawful (map (λ e. e.direction) es)) h in
    go (whole e) t.0 (whole_lawful_each es t.1)
  where
    go : (t : Bool) → lawful e.direction ≡ true → all_lawful (whole_directions es) ≡ true
        → all_lawful (cond t (e.direction ∷ whole_directions es) (whole_directions es)) ≡ true
    go true h later = and_from _ _ h later
    go false h later = later

whole_order : (es : List Record) → EachBeforeLater (map (λ e. e.direction) es) → EachBeforeLater (whole_directions es)
whole_order [] order = tt
whole_order (e ∷ es) order = go (whole e) (whole_order es order.1)
  where
    go : (t : Bool) → EachBeforeLater (whole_directions es) → EachBeforeLater (cond t (e.direction ∷ whole_directions es) (whole_directions es))
    go true later = (whole_all (Before e.direction) es order.0, later)
    go false later = later

-- The directions of the whole places of a lawful list are lawful.
pub whole_lawful : (es : List Record) → LawfulDirections (map (λ e. e.direction) es) → LawfulDirections (whole_directions es)
whole_lawful es laws =
    record {
      each = whole_lawful_each es laws.each;
      ordered = in_order_from (whole_directions es) (whole_order es (each_before_later (map (λ e. e.direction) es) laws));
    }
