-- Each word of the file: what is written of a value, and what a word is worth.
use Rattle.std.proofs.Common.{◌≡◌, ℕ, ◌^◌, ◌<◌, ◌≤◌, Bool, true, false, cond, ◌&&◌, leb, List, ℤ, pos, negsuc, nat_abs, Some, None, codes as text, decimal, Option, sym, refl, ap, ◌∙◌, ⊎_elim, arith}
use lib.Signed.{le_z}
use Rattle.std.specs.Fmt.{signed_decimal}
use Rattle.std.specs.Str.{bytes_eq}
use Rattle.std.proofs.lemmas.Slice.Eq.{bytes_eq-Decides}
use Rattle.std.proofs.lemmas.Bool.{cond-true, cond-false, and_parts, and_from, leb-true, le-leb, cases_Bool}
use Rattle.mojette.specs.declared.direction.Direction.{Direction}
use Rattle.mojette.specs.Bounds.{most_step}
use Rattle.mojette.specs.Directions.{lawful}
use Rattle.mojette.specs.Meaning.{follows}
use Rattle.format.specs.Format.{within, near, p_word, direction_of, after_last, q_word, bins_word, line_word}
use Rattle.format.specs.Numbers.{numeral}
use Rattle.format.specs.Readers.{good, bad}
use Rattle.format.proofs.OfNumbers.{numeral_signed, numeral_back, passed}

-- Numbers ---------------------------------------------------------------------------------------------------------

within_there : (low high why v : ℕ) → low ≤ v → v ≤ high → within low high why (Some (pos v)) ≡ good v
within_there low high why v l h = cond-true (leb low v && leb v high) _ _ (and_from _ _ (le-leb low v l) (le-leb v high h))

within_back :
    (low high why v : ℕ) (o : Option ℤ) → within low high why o ≡ good v → (o ≡ Some (pos v)) × (low ≤ v) × (v ≤ high)
within_back low high why v None h = let z : ◌≡◌ {A = ℕ} 0 1 = cc in absurd (omega arith)
within_back low high why v (Some (negsuc u)) h = let z : ◌≡◌ {A = ℕ} 0 1 = cc in absurd (omega arith)
within_back low high why v (Some (pos u)) h =
    let t = passed (leb low u && leb u high) u why v h in
    let p = and_parts (leb low u) (leb u high) t.0 in
    let same = t.1 in
    (ap {B = Option ℤ} (λ y. Some (pos y)) same, omega (arith, leb-true low u p.0), omega (arith, leb-true u high p.1))

-- a numeral from low to high
pub number_there : (low high why v : ℕ) → low ≤ v → v ≤ high → v < 2 ^ 64 → within low high why (numeral (decimal v)) ≡ good v
number_there low high why v l h s = ap (within low high why) (numeral_signed (pos v) s) ∙ within_there low high why v l h

pub number_back :
    (low high why v : ℕ) (w : List ℕ) → within low high why (numeral w) ≡ good v → high < 2 ^ 64
    → (w ≡ decimal v) × (low ≤ v) × (v ≤ high)
number_back low high why v w e s =
    let b = within_back low high why v (numeral w) e in (numeral_back w (pos v) b.0 (omega (arith, b.2)), b.1, b.2)

-- Directions ------------------------------------------------------------------------------------------------------

pub p_there : (z : ℤ) → nat_abs z ≤ most_step → p_word (signed_decimal z) ≡ good z
p_there z h = ap near (numeral_signed z (omega arith)) ∙ cond-true (leb (nat_abs z) most_step) _ _ (le-leb (nat_abs z) most_step h)

pub near_back : (z : ℤ) (o : Option ℤ) → near o ≡ good z → (o ≡ Some z) × (nat_abs z ≤ most_step)
near_back z None h = let e : ◌≡◌ {A = ℕ} 0 1 = cc in absurd (omega arith)
near_back z (Some y) h =
    let t = passed (leb (nat_abs y) most_step) y 3 z h in
    (ap {B = Option ℤ} Some t.1, omega (arith, leb-true (nat_abs y) most_step t.0, ap nat_abs t.1))

pub p_back : (w : List ℕ) (z : ℤ) → p_word w ≡ good z → w ≡ signed_decimal z
p_back w z h = let b = near_back z (numeral w) h in numeral_back w z b.0 (omega (arith, b.1))

-- a lawful direction is within the bounds
pub steps_bound : (d : Direction) → lawful d ≡ true → (nat_abs d.p ≤ most_step) × (nat_abs d.q ≤ most_step)
steps_bound d h =
    let a = and_parts (leb (nat_abs d.p) most_step) _ h in
    let b = and_parts (le_z (pos 0) d.q) _ a.1 in
    let c = and_parts (leb (nat_abs d.q) most_step) _ b.1 in
    (leb-true (nat_abs d.p) most_step a.0, leb-true (nat_abs d.q) most_step c.0)

pub q_there :
    (last : Option Direction) (d : Direction) → lawful d ≡ true → follows last d ≡ true → q_word last d.p (signed_decimal d.q) ≡ good d
q_there last d l f =
    ap (after_last last d.p) (numeral_signed d.q (omega (arith, (steps_bound d l).1)))
    ∙ cond-true (lawful d) _ _ l
    ∙ cond-true (follows last d) _ _ f

pub record GoodQ (last : Option Direction) (p : ℤ) (w : List ℕ) (d : Direction) : Type 0 where
  pub across : p ≡ d.p
  pub text : w ≡ signed_decimal d.q
  pub law : lawful d ≡ true
  pub order : follows last d ≡ true

pub after_back :
    (last : Option Direction) (p : ℤ) (o : Option ℤ) (d : Direction) → after_last last p o ≡ good d
    → (o ≡ Some d.q) × (p ≡ d.p) × (lawful d ≡ true) × (follows last d ≡ true)
after_back last p None d h = let e : ◌≡◌ {A = ℕ} 0 1 = cc in absurd (omega arith)
after_back last p (Some q) d h =
    ⊎_elim
    (λ l.
    let t = passed (follows last (direction_of p q)) (direction_of p q) 4 d (sym (cond-true (lawful (direction_of p q)) _ _ l) ∙ h) in
    (ap {B = Option ℤ} (λ e. Some e.q) t.1, ap (λ e. e.p) t.1, ap lawful (sym t.1) ∙ l, ap (follows last) (sym t.1) ∙ t.0))
    (λ l.
    let y = sym (cond-false (lawful (direction_of p q)) (cond (follows last (direction_of p q)) (good (direction_of p q)) (bad 4)) (bad 3) l) ∙ h in
    let e : ◌≡◌ {A = ℕ} 0 1 = cc in absurd (omega arith))
    (cases_Bool (lawful (direction_of p q)))

pub q_back : (last : Option Direction) (p : ℤ) (w : List ℕ) (d : Direction) → q_word last p w ≡ good d → GoodQ last p w d
q_back last p w d h =
    let b = after_back last p (numeral w) d h in
    record { across = b.1; text = numeral_back w d.q b.0 (omega (arith, (steps_bound d b.2).1)); law = b.2; order = b.3 }

-- Names -----------------------------------------------------------------------------------------------------------

-- the word for what a place holds
abbrev pub bins_name : Bool → List ℕ
bins_name true = text "bins"
bins_name false = text "lost"

pub bins_back : (w : List ℕ) (how : Bool) → bins_word w ≡ good how → w ≡ bins_name how
bins_back w how h =
    go (bytes_eq w (text "bins")) (bytes_eq w (text "lost")) how (bytes_eq-Decides w (text "bins")).0 (bytes_eq-Decides w (text "lost")).0 h
  where
    go :
        (a b how : Bool) → (a ≡ true → w ≡ text "bins") → (b ≡ true → w ≡ text "lost")
        → cond a (good true) (cond b (good false) (bad 0)) ≡ good how → w ≡ bins_name how
    go true b true x y e = x refl
    go true b false x y e = let z : ◌≡◌ {A = ℕ} 0 1 = cc in absurd (omega arith)
    go false true true x y e = let z : ◌≡◌ {A = ℕ} 0 1 = cc in absurd (omega arith)
    go false true false x y e = y refl
    go false false how x y e = let z : ◌≡◌ {A = ℕ} 0 1 = cc in absurd (omega arith)

-- the word that begins a line, and when it may
abbrev pub LineWord : Bool → Bool → List ℕ → Bool → Type 0
LineWord first room w true = (w ≡ text "dir") × (room ≡ true)
LineWord first room w false = (w ≡ text "end") × (first ≡ false)

pub line_back : (first room : Bool) (w : List ℕ) (more : Bool) → line_word first room w ≡ good more → LineWord first room w more
line_back first room w more h =
    go first room (bytes_eq w (text "dir")) (bytes_eq w (text "end")) more (bytes_eq-Decides w (text "dir")).0 (bytes_eq-Decides w (text "end")).0 h
  where
    go :
        (f r a b more : Bool) → (a ≡ true → w ≡ text "dir") → (b ≡ true → w ≡ text "end")
        → cond a (cond r (good true) (bad 2)) (cond b (cond f (bad 2) (good false)) (bad 0)) ≡ good more → LineWord f r w more
    go f true true b true x y e = (x refl, refl)
    go f true true b false x y e = let z : ◌≡◌ {A = ℕ} 0 1 = cc in absurd (omega arith)
    go f false true b more x y e = let z : ◌≡◌ {A = ℕ} 0 1 = cc in absurd (omega arith)
    go true r false true more x y e = let z : ◌≡◌ {A = ℕ} 0 1 = cc in absurd (omega arith)
    go false r false true true x y e = let z : ◌≡◌ {A = ℕ} 0 1 = cc in absurd (omega arith)
    go false r false true false x y e = (y refl, refl)
    go f r false false more x y e = let z : ◌≡◌ {A = ℕ} 0 1 = cc in absurd (omega arith)
