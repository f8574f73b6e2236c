-- Passing codes one by one.
use Rattle.std.proofs.Common.{◌≡◌, ℕ, suc, ◌+◌, ◌-◌, ◌<◌, ◌≤◌, List, ◌∷◌, length, Ok, Err, codes as text, Result, sym, refl, ap, ◌∙◌, arith}
use Rattle.samples.specs.declared.coded.Coded.{Ghosts as Codes}
use Rattle.samples.specs.declared.kind.Kind.{Ghosts as Operations}
use Rattle.format.specs.Format.{code_word, codes_reader}
use Rattle.format.specs.Readers.{Parsed, done, fault, then, Reader, expect, accept}
use Rattle.bracket.specs.declared.fault_in_text.FaultInText.{FaultInText}
use Rattle.bracket.specs.declared.lexer.Lexer.{Lexer}
use Rattle.bracket.specs.Found.{found_from}
use Rattle.bracket.specs.Lexing.{left, Reads, ReadsAs}
use Rattle.bracket.proofs.OfFound.{codes_found}

-- that something was read, and no more
abbrev only : {A : Type 0} → Parsed A → Parsed (Unit {0})
only (done a bs) = done tt bs
only (fault byte why) = fault byte why

forgets : {A : Type 0} (a : A) (x : Parsed (List A)) → only (then x (λ xs. done (a ∷ xs))) ≡ only x
forgets a (done xs s) = refl
forgets a (fault byte why) = refl

only_fault : {A : Type 0} (x : Parsed A) (byte why : ℕ) → only x ≡ fault byte why → x ≡ fault byte why
only_fault (done a s) byte why h = let z : ◌≡◌ {A = ℕ} 0 1 = cc in absurd (omega arith)
only_fault (fault b w) byte why h = let e : b ≡ byte = cc in let f : w ≡ why = cc in λ i. fault (e i) (f i)

only_done : {A : Type 0} (x : Parsed A) (r : List ℕ) → only x ≡ done tt r → (a : A) × (x ≡ done a r)
only_done (done a s) r h = let e : s ≡ r = cc in (a, ap (done a) e)
only_done (fault b w) r h = let z : ◌≡◌ {A = ℕ} 0 1 = cc in absurd (omega arith)

module _ {S : Type 0} (K : Operations S) (C : Codes S) where
  -- what a call that passes codes answers
  abbrev pub Skips : ℕ → Lexer → Result (Unit {0}) FaultInText → Lexer → Type 0
  Skips count start r m =
      ReadsAs (λ _. found_from K C start.text.now start.at count) (λ n. codes_reader C n count) start r m

  -- what follows the first code, and what follows the space before it
  abbrev after_code : ℕ → ℕ → S → Reader (List S)
  after_code n b x r = then (codes_reader C n b r) (λ xs. done (x ∷ xs))

  abbrev after_space : ℕ → ℕ → Unit {0} → Reader (List S)
  after_space n b u s = then (accept n (code_word C) s) (after_code n b)

  -- l is what the lexer start has become after i of count codes
  pub record Passed (count i : ℕ) (start l : Lexer) : Type 0 where
    pub gives : only (codes_reader C (length l.text.now) (count - i) (left l)) ≡ only (codes_reader C (length start.text.now) count (left start))
    pub same : l.text.now ≡ start.text.now

  pub none_passed : (count : ℕ) (l : Lexer) → Passed count 0 l l
  none_passed count l =
      let e : count - 0 ≡ count = omega arith in
      record { gives = ap (λ k. only (codes_reader C (length l.text.now) k (left l))) e; same = refl }

  module _ (count i : ℕ) (start l : Lexer) (inside : i < count) (passed : Passed count i start l) where
    opened :
        only (codes_reader C (length start.text.now) count (left start))
        ≡ only (then (expect (length l.text.now) (text " ") (left l)) (after_space (length l.text.now) (count - (i + 1))))
    opened =
        let e : count - i ≡ suc (count - (i + 1)) = omega arith in
        sym passed.gives ∙ ap (λ k. only (codes_reader C (length l.text.now) k (left l))) e

    pub stops_at_space :
        (m : Lexer) (e : FaultInText) → Reads (λ n. expect n (text " ")) l (Err e) m
        → Skips count start (Err e) m
    stops_at_space m e r = record {
      gives = only_fault _ _ _ (opened ∙ ap (λ x. only (then x (after_space (length l.text.now) (count - (i + 1))))) r.gives);
      in_text = r.in_text ∙ passed.same;
      same = r.same ∙ passed.same;
    }

    module _ (k : Lexer) (spaced : Reads (λ n. expect n (text " ")) l (Ok tt) k) where
      at_code :
          only (codes_reader C (length start.text.now) count (left start))
          ≡ only (then (accept (length k.text.now) (code_word C) (left k)) (after_code (length k.text.now) (count - (i + 1))))
      at_code =
          opened ∙ ap (λ x. only (then x (after_space (length l.text.now) (count - (i + 1))))) spaced.gives
          ∙ ap (λ t. only (then (accept (length t) (code_word C) (left k)) (after_code (length t) (count - (i + 1))))) (sym spaced.same)

      pub stops_at_code :
          (m : Lexer) (e : FaultInText) → Reads (λ n. accept n (code_word C)) k (Err e) m
          → Skips count start (Err e) m
      stops_at_code m e r = record {
        gives = only_fault _ _ _ (at_code ∙ ap (λ x. only (then x (after_code (length k.text.now) (count - (i + 1))))) r.gives);
        in_text = r.in_text ∙ spaced.same ∙ passed.same;
        same = r.same ∙ spaced.same ∙ passed.same;
      }

      pub passes_one : (m : Lexer) (x : S) → Reads (λ n. accept n (code_word C)) k (Ok x) m → Passed count (i + 1) start m
      passes_one m x r = record {
        gives =
            ap (λ t. only (codes_reader C (length t) (count - (i + 1)) (left m))) r.same
            ∙ sym (forgets x (codes_reader C (length k.text.now) (count - (i + 1)) (left m)))
            ∙ sym (at_code ∙ ap (λ y. only (then y (after_code (length k.text.now) (count - (i + 1))))) r.gives);
        same = r.same ∙ spaced.same ∙ passed.same;
      }

  pub all_passed :
      (count i : ℕ) (start l : Lexer) → count ≤ i → Passed count i start l
      → Skips count start (Ok tt) l
  all_passed count i start l h p =
      let e : count - i ≡ 0 = omega arith in
      let d = only_done (codes_reader C (length start.text.now) count (left start)) (left l) (sym p.gives ∙ ap (λ k. only (codes_reader C (length l.text.now) k (left l))) e) in
      record {
        gives = d.1 ∙ ap (λ xs. done xs (left l)) (codes_found C K _ count start.at start.text.now d.0 (left l) d.1);
        in_text = tt;
        same = p.same;
      }
