-- Lawful shapes by their parts, and places as a file tells them.
use Rattle.std.proofs.Common.{◌≡◌, ℕ, suc, ◌≤◌, Bool, true, false, cond, ◌&&◌, leb, List, [], ◌∷◌, length, Some, None, Option, sym, refl, ◌∙◌, arith}
use Rattle.std.proofs.lemmas.List.FromFn.{fill_by_all}
use Rattle.std.proofs.lemmas.Bool.{cond-true, and_parts, and_from, leb-true, le-leb}
use Rattle.samples.specs.declared.kind.Kind.{Ghosts as Operations}
use Rattle.mojette.specs.declared.direction.Direction.{Direction}
use Rattle.mojette.specs.declared.direction.Record.{Record}
use Rattle.mojette.specs.Bins.{bins}
use Rattle.mojette.specs.Bounds.{most_side, most_places}
use Rattle.mojette.specs.Directions.{lawful}
use Rattle.mojette.specs.Meaning.{Shape, Place, side_ok, number_ok, follows, places_verdict, verdict, Lawful}
use Rattle.mojette.specs.Refusals.{Refusal}
use Rattle.format.specs.Texts.{bin_sums}

-- each direction is lawful and follows the one before, the first one `last`
abbrev pub Steps : Option Direction → List Record → Type 0
Steps last [] = Unit {0}
Steps last (e ∷ es) =
    (lawful e.direction ≡ true) × (follows last e.direction ≡ true) × Steps (Some e.direction) es

-- what a test lets pass
let_pass : (b : Bool) (x : Option Refusal) (r : Refusal) → cond b x (Some r) ≡ None → (b ≡ true) × (x ≡ None)
let_pass true x r h = (refl, h)
let_pass false x r h = let z : ◌≡◌ {A = ℕ} 0 1 = cc in absurd (omega arith)

steps_back : (i : ℕ) (last : Option Direction) (es : List Record) → places_verdict i last es ≡ None → Steps last es
steps_back i last [] h = tt
steps_back i last (e ∷ es) h =
    let a = let_pass (lawful e.direction) _ _ h in
    let b = let_pass (follows last e.direction) _ _ a.1 in
    (a.0, b.0, steps_back (suc i) (Some e.direction) es b.1)

steps_there : (i : ℕ) (last : Option Direction) (es : List Record) → Steps last es → places_verdict i last es ≡ None
steps_there i last [] s = refl
steps_there i last (e ∷ es) s =
    cond-true (lawful e.direction) _ _ s.0
    ∙ cond-true (follows last e.direction) _ _ s.1
    ∙ steps_there (suc i) (Some e.direction) es s.2

pub record Parts (s : Shape) : Type 0 where
  pub wide : (1 ≤ s.P) × (s.P ≤ most_side)
  pub high : (1 ≤ s.Q) × (s.Q ≤ most_side)
  pub count : (1 ≤ length s.records) × (length s.records ≤ most_places)
  pub each : Steps None s.records

between : (low n high : ℕ) → (leb low n && leb n high) ≡ true → (low ≤ n) × (n ≤ high)
between low n high h = let p = and_parts (leb low n) (leb n high) h in (leb-true low n p.0, leb-true n high p.1)

between_from : (low n high : ℕ) → (low ≤ n) × (n ≤ high) → (leb low n && leb n high) ≡ true
between_from low n high h = and_from (leb low n) (leb n high) (le-leb low n h.0) (le-leb n high h.1)

pub lawful_parts : (s : Shape) → Lawful s → Parts s
unfolding verdict
lawful_parts s h =
    let a = let_pass (side_ok s.P && side_ok s.Q) _ _ h in
    let b = let_pass (number_ok (length s.records)) _ _ a.1 in
    let sides = and_parts (side_ok s.P) (side_ok s.Q) a.0 in
    record {
      wide = between 1 s.P most_side sides.0;
      high = between 1 s.Q most_side sides.1;
      count = between 1 (length s.records) most_places b.0;
      each = steps_back 0 None s.records b.1;
    }

pub parts_lawful : (s : Shape) → Parts s → Lawful s
unfolding verdict
parts_lawful s p =
    cond-true (side_ok s.P && side_ok s.Q) _ _
    (and_from (side_ok s.P) (side_ok s.Q) (between_from 1 s.P most_side p.wide) (between_from 1 s.Q most_side p.high))
    ∙ cond-true (number_ok (length s.records)) _ _ (between_from 1 (length s.records) most_places p.count)
    ∙ steps_there 0 None s.records p.each

module _ {S : Type 0} (K : Operations S) (P Q : ℕ) where
  -- just so many sums as bins are left as they are
  pub all_sums : (x : Place S) → length x.sums ≡ bins P Q x.entry.direction → bin_sums K P Q x ≡ x.sums
  all_sums x e = sym (fill_by_all _ x.sums _ K.zero e (λ k l. refl))
