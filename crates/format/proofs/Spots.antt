-- Where the tokens of a file stand, and the directions that they tell.
use Rattle.std.proofs.Common.{◌≡◌, ℕ, ◌<◌, ◌≤◌, Bool, true, false, cond, ◌&&◌, List, [], ◌∷◌, length, ℤ, None, Some, codes as text, Option, refl, ap, ◌∙◌, arith}
use Rattle.std.specs.Str.{bytes_eq}
use Rattle.std.proofs.lemmas.Bool.{cond-false}
use Rattle.std.proofs.lemmas.Bool.Decides.{nat_tests}
use Rattle.mojette.specs.declared.direction.Direction.{Direction}
use Rattle.format.specs.Numbers.{numeral}
use Rattle.format.proofs.Following.{solid, solid_more}
use Rattle.format.specs.Reasons.{size_belongs, p_belongs, p_of_q, Spot, at_size, at_word, at_p, elsewhere, spot_of_q, line_spot, spot, joined, directions}

pub and_false : (b : Bool) → (b && false) ≡ false
and_false true = refl
and_false false = refl

pub cond_same : {A : Type 0} (b : Bool) (x : A) → cond b x x ≡ x
cond_same true x = refl
cond_same false x = refl

pub joined_none : (o : Option ℤ) (ds : List Direction) → joined o None ds ≡ ds
joined_none None ds = refl
joined_none (Some q) ds = refl

-- more tokens than those before Q
abbrev pub Long : List (List ℕ) → Type 0
Long ws = 8 ≤ length ws

longer : (w : List ℕ) (ws : List (List ℕ)) → Long ws → Long (w ∷ ws)
longer w ws l = omega arith

-- such tokens are behind P and Q
pub spot_behind : (ws : List (List ℕ)) (s : Spot) → Long ws → line_spot ws ≡ s → spot ws ≡ s
spot_behind ws s l e = cond-false (size_belongs ws) at_size (line_spot ws) (grind (arith, nat_tests)) ∙ e

-- behind a space and any token
pub no_p_behind : (w : List ℕ) (ws : List (List ℕ)) → p_belongs (text " " ∷ (w ∷ (text " " ∷ ws))) ≡ false
no_p_behind w ws = and_false (bytes_eq (text "dir") w)

pub behind_word : (w : List ℕ) (ws : List (List ℕ)) → line_spot (w ∷ (text " " ∷ ws)) ≡ elsewhere
behind_word w ws = simp (and_false, cond_same)

-- Tokens of a file behind which neither a p nor a q belongs, even after a space. They tell the directions ds.
pub record Free (ds : List Direction) (ws : List (List ℕ)) : Type 0 where
  pub long : Long ws
  pub here : line_spot ws ≡ elsewhere
  pub no_p : p_belongs (text " " ∷ ws) ≡ false
  pub no_q : p_of_q (text " " ∷ ws) ≡ None
  pub all_solid : solid ws ≡ true
  pub told : directions ws ≡ ds

-- Tokens of a file with a line end last. They tell the directions ds.
pub record Ended (ds : List Direction) (ws : List (List ℕ)) : Type 0 where
  pub others : List (List ℕ)
  pub is : ws ≡ (10 ∷ []) ∷ others
  pub long : Long ws
  pub all_solid : solid ws ≡ true
  pub told : directions ws ≡ ds

pub free_word :
    (ds : List Direction) (w : List ℕ) (ws : List (List ℕ)) → Long ws → p_belongs (text " " ∷ ws) ≡ false → 0 < length w
    → solid ws ≡ true → directions (w ∷ (text " " ∷ ws)) ≡ ds → Free ds (w ∷ (text " " ∷ ws))
free_word ds w ws l p some h t = record {
  long = omega arith;
  here = behind_word w ws;
  no_p = no_p_behind w ws;
  no_q = cond-false (p_belongs (text " " ∷ ws)) (numeral w) None p;
  all_solid = solid_more w (text " " ∷ ws) some h;
  told = t;
}

-- behind a line end, and behind the bracket after it
pub at_line : (ds : List Direction) (ws : List (List ℕ)) → Ended ds ws → spot ws ≡ elsewhere
at_line ds ws e = spot_behind ws elsewhere e.long (ap line_spot e.is)

pub word_next : (ds : List Direction) (ws : List (List ℕ)) → Ended ds ws → spot (text "(" ∷ ws) ≡ at_word
word_next ds ws e = spot_behind (text "(" ∷ ws) at_word (longer (text "(") ws e.long) (ap (λ v. line_spot (text "(" ∷ v)) e.is)

-- behind a space that follows tokens behind which no p and no q belongs
pub free_space : (ds : List Direction) (ws : List (List ℕ)) → Free ds ws → spot (text " " ∷ ws) ≡ elsewhere
free_space ds ws f =
    spot_behind (text " " ∷ ws) elsewhere (longer (text " ") ws f.long)
    (cond-false (p_belongs (text " " ∷ ws)) at_p (spot_of_q (p_of_q (text " " ∷ ws))) f.no_p ∙ ap spot_of_q f.no_q)
