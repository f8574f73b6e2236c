-- Positions, place by place.
use Rattle.std.proofs.Common.{◌≡◌, ℕ, zero, suc, ◌+◌, ◌-◌, ◌<◌, ◌≤◌, Bool, true, false, cond, ◌&&◌, ltb, List, [], ◌∷◌, length, get_or, refl, ap, ◌∙◌, subst, arith}
use Rattle.std.proofs.lemmas.Bool.{cond-true, cond-false, lt-ltb, le-ltb, ltb-true, ltb-false}
use Rattle.mojette.specs.declared.direction.Record.{Record}
use Rattle.mojette.specs.Bins.{bins, in_bin, whole, start, all_bins}
use Rattle.mojette.specs.Meaning.{Place}
use Rattle.law.specs.Positions.{whole_at, lies_at, place_at, bin_at, sum_at}
use Rattle.law.specs.Steps.{no_record}

pub front : (b : ℕ) → 0 + b ≡ b
front b = omega arith

pub shift : (x y b : ℕ) → x + y + b ≡ x + (y + b)
shift x y b = omega arith

-- a choice at x below n, and at n + y
below : {X : Type 0} (n x : ℕ) (u : X) (f : ℕ → X) → x < n → cond (ltb x n) u (f (x - n)) ≡ u
below n x u f l = cond-true (ltb x n) u (f (x - n)) (lt-ltb x n l)

beyond : {X : Type 0} (n y : ℕ) (u : X) (f : ℕ → X) → cond (ltb (n + y) n) u (f (n + y - n)) ≡ f y
beyond n y u f =
    let e : n + y - n ≡ y = omega arith in
    cond-false (ltb (n + y) n) u (f (n + y - n)) (le-ltb (n + y) n (omega arith)) ∙ ap f e

module _ (P Q : ℕ) where
  -- B of a place
  abbrev pub B : Record → ℕ
  B e = bins P Q e.direction

  pub lies_here : (e : Record) (es : List Record) (c x : ℕ) → x < B e → lies_at P Q (e ∷ es) c x ≡ (whole e && in_bin P Q e.direction c x)
  unfolding lies_at
  lies_here e es c x l = below (B e) x _ (lies_at P Q es c) l

  pub lies_there : (e : Record) (es : List Record) (c y : ℕ) → lies_at P Q (e ∷ es) c (B e + y) ≡ lies_at P Q es c y
  unfolding lies_at
  lies_there e es c y = beyond (B e) y _ (lies_at P Q es c)

  pub whole_here : (e : Record) (es : List Record) (x : ℕ) → x < B e → whole_at P Q (e ∷ es) x ≡ whole e
  unfolding whole_at
  whole_here e es x l = below (B e) x _ (whole_at P Q es) l

  pub whole_there : (e : Record) (es : List Record) (y : ℕ) → whole_at P Q (e ∷ es) (B e + y) ≡ whole_at P Q es y
  unfolding whole_at
  whole_there e es y = beyond (B e) y _ (whole_at P Q es)

  pub sum_here : {S : Type 0} (z : S) (a : Place S) (rest : List (Place S)) (x : ℕ) → x < B a.entry → sum_at P Q z (a ∷ rest) x ≡ get_or a.sums x z
  unfolding sum_at
  sum_here z a rest x l = below (B a.entry) x _ (sum_at P Q z rest) l

  pub sum_there : {S : Type 0} (z : S) (a : Place S) (rest : List (Place S)) (y : ℕ) → sum_at P Q z (a ∷ rest) (B a.entry + y) ≡ sum_at P Q z rest y
  unfolding sum_at
  sum_there z a rest y = beyond (B a.entry) y _ (sum_at P Q z rest)

  -- a position of the places e ∷ es is one of e, or one of es beyond
  pub data Split (e : Record) (es : List Record) : ℕ → Type 0 where
    here : {x : ℕ} → x < B e → Split e es x
    there : {y : ℕ} → y < all_bins P Q es → Split e es (B e + y)

  pub split : (e : Record) (es : List Record) (x : ℕ) → x < all_bins P Q (e ∷ es) → Split e es x
  split e es x l = go (ltb x (B e)) refl
    where
      go : (t : Bool) → ltb x (B e) ≡ t → Split e es x
      go true h = here (ltb-true x (B e) h)
      go false h =
          let k : B e ≤ x = ltb-false x (B e) h in
          let same : B e + (x - B e) ≡ x = omega arith in
          subst (Split e es) same (there {y = x - B e} (omega arith))

  -- By place and bin ----------------------------------------------------------------------------------------------

  -- place n
  abbrev pub at : List Record → ℕ → Record
  at es n = get_or es n no_record

  pub next_start : (es : List Record) (n : ℕ) → n < length es → start P Q es (suc n) ≡ start P Q es n + B (at es n)
  next_start [] n l = absurd (omega arith)
  next_start (e ∷ es) zero l = omega arith
  next_start (e ∷ es) (suc n) l = let later = next_start es n (omega arith) in omega arith

  pub last_start : (es : List Record) → start P Q es (length es) ≡ all_bins P Q es
  last_start [] = refl
  last_start (e ∷ es) = ap (λ k. B e + k) (last_start es)

  pub within_all : (es : List Record) (n b : ℕ) → n < length es → b < B (at es n) → start P Q es n + b < all_bins P Q es
  within_all [] n b l k = absurd (omega arith)
  within_all (e ∷ es) zero b l k = omega arith
  within_all (e ∷ es) (suc n) b l k = let later = within_all es n b (omega arith) k in omega arith

  -- what a position says, by the place and bin that it is
  module _ {X : Type 0} (f : List Record → ℕ → X) (g : Record → ℕ → X) (first : (e : Record) (es : List Record) (x : ℕ) → x < B e → f (e ∷ es) x ≡ g e x)
      (later : (e : Record) (es : List Record) (y : ℕ) → f (e ∷ es) (B e + y) ≡ f es y) where
    by_place : (es : List Record) (n b : ℕ) → n < length es → b < B (at es n) → f es (start P Q es n + b) ≡ g (at es n) b
    by_place [] n b l k = absurd (omega arith)
    by_place (e ∷ es) zero b l k = ap (f (e ∷ es)) (front b) ∙ first e es b k
    by_place (e ∷ es) (suc n) b l k = ap (f (e ∷ es)) (shift (B e) (start P Q es n) b) ∙ later e es (start P Q es n + b) ∙ by_place es n b (omega arith) k

  pub whole_of : (es : List Record) (n b : ℕ) → n < length es → b < B (at es n) → whole_at P Q es (start P Q es n + b) ≡ whole (at es n)
  whole_of = by_place (whole_at P Q) (λ e b. whole e) whole_here whole_there

  pub lies_of : (es : List Record) (c n b : ℕ) → n < length es → b < B (at es n) →
      lies_at P Q es c (start P Q es n + b) ≡ (whole (at es n) && in_bin P Q (at es n).direction c b)
  lies_of es c n b l k =
      by_place (λ es x. lies_at P Q es c x) (λ e b. whole e && in_bin P Q e.direction c b) (λ e es x l. lies_here e es c x l) (λ e es y. lies_there e es c y)
      es n b l k

  pub bin_here : (e : Record) (es : List Record) (x : ℕ) → x < B e → bin_at P Q (e ∷ es) x ≡ x
  unfolding bin_at
  bin_here e es x l = below (B e) x _ (bin_at P Q es) l

  pub bin_there : (e : Record) (es : List Record) (y : ℕ) → bin_at P Q (e ∷ es) (B e + y) ≡ bin_at P Q es y
  unfolding bin_at
  bin_there e es y = beyond (B e) y _ (bin_at P Q es)

  pub bin_of_position : (es : List Record) (n b : ℕ) → n < length es → b < B (at es n) → bin_at P Q es (start P Q es n + b) ≡ b
  bin_of_position = by_place (bin_at P Q) (λ e b. b) bin_here bin_there

  pub place_here : (e : Record) (es : List Record) (x : ℕ) → x < B e → place_at P Q (e ∷ es) x ≡ 0
  unfolding place_at
  place_here e es x l = below (B e) x 0 (λ y. suc (place_at P Q es y)) l

  pub place_there : (e : Record) (es : List Record) (y : ℕ) → place_at P Q (e ∷ es) (B e + y) ≡ suc (place_at P Q es y)
  unfolding place_at
  place_there e es y = beyond (B e) y 0 (λ x. suc (place_at P Q es x))

  pub place_of : (es : List Record) (n b : ℕ) → n < length es → b < B (at es n) → place_at P Q es (start P Q es n + b) ≡ n
  unfolding place_at
  place_of [] n b l k = absurd (omega arith)
  place_of (e ∷ es) zero b l k = ap (place_at P Q (e ∷ es)) (front b) ∙ below (B e) b 0 (λ x. suc (place_at P Q es x)) k
  place_of (e ∷ es) (suc n) b l k =
      ap (place_at P Q (e ∷ es)) (shift (B e) (start P Q es n) b)
      ∙ beyond (B e) (start P Q es n + b) 0 (λ x. suc (place_at P Q es x)) ∙ ap suc (place_of es n b (omega arith) k)
