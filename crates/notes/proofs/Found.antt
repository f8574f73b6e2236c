-- Which pixels are missing, while a found one is taken off its bins, one after another.
use Rattle.std.proofs.Common.{◌≡◌, ℕ, ◌<◌, ◌≤◌, Bool, true, false, not, ◌&&◌, eqb, ltb, List, length, get_or, set, refl, sym, ap, ◌∙◌, ⊎_elim, arith}
use Rattle.std.proofs.lemmas.Bool.{cases_eq, cases_lt, eq-eqb, ne_eqb, lt-ltb, le-ltb}
use Rattle.std.proofs.lemmas.List.{get_or-set_same, get_or-set_other}
use Rattle.mojette.specs.Meaning.{Shape, pixels_of, bins_of}
use Rattle.peeling.specs.Steps.{filled}
use Rattle.peeling.proofs.Loops.{get_or-filled}
use Rattle.law.specs.Positions.{incidence}
use Rattle.notes.specs.Missing.{Missing, Alike, Misses, all_missing, by_marks, found_in, found_below, found}

keeps : (x y : Bool) → (x && not (y && false)) ≡ x
keeps true true = refl
keeps true false = refl
keeps false y = refl

and_true : (x : Bool) → (x && true) ≡ x
and_true true = refl
and_true false = refl

module _ (s : Shape) (m : Missing) (cell : ℕ) where
  pub found_none : Alike s m (found_below 0 cell m)
  found_none b c l h = sym ((λ i. m b c && not (eqb c cell && le-ltb b 0 (omega arith) i)) ∙ keeps (m b c) (eqb c cell))

  pub found_all : Alike s (found_below (bins_of s) cell m) (found cell m)
  found_all b c l h = λ i. m b c && not (((λ j. eqb c cell && lt-ltb b (bins_of s) l j) ∙ and_true (eqb c cell)) i)

  module _ (misses : Misses s m cell) where
    -- it is still missing in a bin further on
    pub still_there : (at j : ℕ) → at < bins_of s → j ≤ at → (incidence s).lies cell at ≡ true → found_below j cell m at cell ≡ true
    still_there at j l past on = (λ i. (misses at l ∙ on) i && not (eqb cell cell && le-ltb at j past i)) ∙ keeps true (eqb cell cell)

    module _ (j k : ℕ) (on : j ≤ k) where
      -- one bin in which it does not lie, or which is not between j and k
      same_found : (b c : ℕ) → b < bins_of s → (j ≤ b → b < k → (incidence s).lies cell b ≡ false) → found_below j cell m b c ≡ found_below k cell m b c
      same_found b c l none = ⊎_elim
          (λ (is : c ≡ cell). ⊎_elim
          (λ (below : b < j). λ i. m b c && not (eqb c cell && (lt-ltb b j below ∙ sym (lt-ltb b k (omega arith))) i))
          (λ (past : j ≤ b). ⊎_elim
          (λ (here : b < k).
          let e : m b c ≡ false = ap (m b) is ∙ misses b l ∙ none past here in
          ap (λ t. t && not (eqb c cell && ltb b j)) e ∙ sym (ap (λ t. t && not (eqb c cell && ltb b k)) e))
          (λ (beyond : k ≤ b). λ i. m b c && not (eqb c cell && (le-ltb b j past ∙ sym (le-ltb b k beyond)) i))
          (cases_lt b k))
          (cases_lt b j))
          (λ (ne : c ≡ cell → ⊥).
          ap (λ t. m b c && not (t && ltb b j)) (ne_eqb c cell ne) ∙ sym (ap (λ t. m b c && not (t && ltb b k)) (ne_eqb c cell ne)))
          (cases_eq c cell)

      -- past bins in which it does not lie
      pub found_lost : ((b : ℕ) → j ≤ b → b < k → (incidence s).lies cell b ≡ false) → Alike s (found_below j cell m) (found_below k cell m)
      found_lost none b c l h = same_found b c l (none b)

      -- past one in which it lies
      pub found_next : (at : ℕ) → j ≤ at → at < k → ((b : ℕ) → j ≤ b → b < k → (b ≡ at → ⊥) → (incidence s).lies cell b ≡ false) →
          Alike s (found_in at cell (found_below j cell m)) (found_below k cell m)
      found_next at low high none b c l h = ⊎_elim
          (λ (is : b ≡ at).
          (λ i. (m b c && not (eqb c cell && le-ltb b j (omega arith) i)) && not (eq-eqb b at is i && eqb c cell))
          ∙ at_it (m b c) (eqb c cell) ∙ sym (λ i. m b c && not (eqb c cell && lt-ltb b k (omega arith) i)))
          (λ (ne : b ≡ at → ⊥).
          ap (λ t. (m b c && not (eqb c cell && ltb b j)) && not (t && eqb c cell)) (ne_eqb b at ne) ∙ and_true (m b c && not (eqb c cell && ltb b j))
          ∙ same_found b c l (λ past here. none b past here ne))
          (cases_eq b at)
        where
          at_it : (x y : Bool) → ((x && not (y && false)) && not (true && y)) ≡ (x && not (y && true))
          at_it true true = refl
          at_it true false = refl
          at_it false y = refl

-- The marks -------------------------------------------------------------------------------------------------------

module _ (s : Shape) (marks : List ℕ) where
  pub missed_by_marks : (cell : ℕ) → eqb (get_or marks cell 0) 0 ≡ true → Misses s (by_marks s marks) cell
  missed_by_marks cell e b l = ap (λ t. (incidence s).lies cell b && t) e ∙ and_true ((incidence s).lies cell b)

  -- a found pixel is marked
  pub found_by_marks : (cell : ℕ) → cell < length marks → Alike s (found cell (by_marks s marks)) (by_marks s (set marks cell 1))
  found_by_marks cell inside b c l h = ⊎_elim
      (λ (is : c ≡ cell).
      ap (λ t. ((incidence s).lies c b && eqb (get_or marks c 0) 0) && not t) (eq-eqb c cell is)
      ∙ gone ((incidence s).lies c b) (eqb (get_or marks c 0) 0)
      ∙ sym (ap (λ n. (incidence s).lies c b && eqb n 0) (ap (λ k. get_or (set marks cell 1) k 0) is ∙ get_or-set_same marks cell 1 0 inside)))
      (λ (ne : c ≡ cell → ⊥).
      ap (λ t. ((incidence s).lies c b && eqb (get_or marks c 0) 0) && not t) (ne_eqb c cell ne)
      ∙ and_true ((incidence s).lies c b && eqb (get_or marks c 0) 0)
      ∙ sym (ap (λ n. (incidence s).lies c b && eqb n 0) (get_or-set_other marks cell c 1 0 ne)))
      (cases_eq c cell)
    where
      gone : (x y : Bool) → ((x && y) && false) ≡ (x && false)
      gone true true = refl
      gone true false = refl
      gone false y = refl

  -- at the seal
  pub all_by_marks : pixels_of s ≤ length marks → Alike s (all_missing s) (by_marks s (filled (pixels_of s) (λ _. 0) marks))
  all_by_marks long b c l h =
      sym (ap (λ n. (incidence s).lies c b && eqb n 0) (get_or-filled (pixels_of s) (λ _. 0) marks 0 c long h) ∙ and_true ((incidence s).lies c b))
