-- The first token of a text.
use Rattle.std.proofs.Common.{◌≡◌, ℕ, ◌+◌, ◌-◌, ◌<◌, ◌≤◌, Bool, true, false, cond, not, ◌||◌, is_some, Some, None, ◌==◌, List, [], ◌∷◌, length, get_or, take, drop, sym, refl, ap, ◌∙◌, subst, arith}
use Rattle.std.proofs.lemmas.List.{take_at, take_rest, drop-drop, length-append}
use Rattle.std.specs.List.{take_while}
use Rattle.std.proofs.lemmas.Bool.{cond-false}
use Rattle.std.proofs.lemmas.List.Sums.{take_while-cons}
use Rattle.samples.specs.Names.{mark, Unmarked, IsWord}
use Rattle.format.specs.Tokens.{run, token, after}
use Rattle.format.proofs.OfTokens.{run_split, token_split}
use Rattle.bracket.specs.declared.lexer.Lexer.{Lexer}
use Rattle.bracket.specs.declared.lexer.Token.{Token}
use Rattle.bracket.specs.declared.lexer.Token.TheVariants as tokens
use Rattle.bracket.specs.Lexing.{left, place, mark_of, token_len, IsToken}

-- The marks ----------------------------------------------------------------------------------------------------------

is_mark : (b : ℕ) → is_some (mark_of b) ≡ mark b
is_mark b = go (b == 40) (b == 41) (b == 32) (b == 10)
  where
    go :
        (w x y z : Bool) → is_some (cond w (Some tokens.Open) (cond x (Some tokens.Close) (cond y (Some tokens.Space) (cond z (Some tokens.Newline) None))))
        ≡ (w || (x || (y || z)))
    go true x y z = refl
    go false true y z = refl
    go false false true z = refl
    go false false false true = refl
    go false false false false = refl

no_mark : (b : ℕ) → mark_of b ≡ None → mark b ≡ false
no_mark b e = sym (is_mark b) ∙ ap is_some e

-- The longest run -----------------------------------------------------------------------------------------------------

pub run_is : (bs : List ℕ) → take_while (λ b. not (mark b)) bs ≡ run bs
run_is [] = refl
run_is (b ∷ bs) = take_while-cons (λ b. not (mark b)) b bs ∙ go (mark b) (run_is bs)
  where
    go : (m : Bool) {xs ys : List ℕ} → xs ≡ ys → cond (not m) (b ∷ xs) [] ≡ cond m [] (b ∷ ys)
    go true e = refl
    go false e = ap (λ xs. b ∷ xs) e

run_unmarked : (bs : List ℕ) → Unmarked (run bs)
run_unmarked [] = tt
run_unmarked (b ∷ bs) = go (mark b) refl (run_unmarked bs)
  where
    go : (m : Bool) → mark b ≡ m → Unmarked (run bs) → Unmarked (cond m [] (b ∷ run bs))
    go true e u = tt
    go false e u = (e, u)

run_front : (bs : List ℕ) → take (length (run bs)) bs ≡ run bs
run_front bs = ap (take (length (run bs))) (sym (run_split bs)) ∙ take_at (run bs) _ _ refl

-- At any other byte a word stands, which is the longest run -----------------------------------------------------------

pub record FirstWord (n : ℕ) (bs : List ℕ) : Type 0 where
  pub front : take n bs ≡ token bs
  pub word : IsWord (token bs)

pub word_first : (bs : List ℕ) (n : ℕ) → 0 < length bs → mark_of (get_or bs 0 0) ≡ None → n ≡ length (take_while (λ b. not (mark b)) bs) → FirstWord n bs
word_first [] n l m e = absurd (omega arith)
word_first (b ∷ bs) n l none e =
    let m : mark b ≡ false = no_mark b none in
    let t : token (b ∷ bs) ≡ b ∷ run bs = cond-false (mark b) (b ∷ []) (b ∷ run bs) m in
    let r : run (b ∷ bs) ≡ b ∷ run bs = cond-false (mark b) [] (b ∷ run bs) m in
    record {
      front = ap (λ j. take j (b ∷ bs)) (e ∙ ap length (run_is (b ∷ bs))) ∙ run_front (b ∷ bs) ∙ r ∙ sym t;
      word = subst IsWord (sym t) (m, run_unmarked bs);
    }

-- How far the next token begins ---------------------------------------------------------------------------------------

pub token_has : (t : Token) (byte : ℕ) (bs : List ℕ) → IsToken byte bs t → length (token bs) ≡ token_len t
token_has tokens.Open byte bs i = ap length i
token_has tokens.Close byte bs i = ap length i
token_has tokens.Space byte bs i = ap length i
token_has tokens.Newline byte bs i = ap length i
token_has tokens.End byte bs i = ap length i
token_has (tokens.Word w at) byte bs i = sym (ap length i.0)

pub next_rest : (at : ℕ) (t : List ℕ) (x : Token) (byte : ℕ) → IsToken byte (drop at t) x → drop (at + token_len x) t ≡ after (drop at t)
next_rest at t x byte i = ap (λ n. drop (at + n) t) (sym (token_has x byte (drop at t) i)) ∙ sym (drop-drop (length (token (drop at t))) at t)

pub token_within : (t : Token) (byte : ℕ) (bs : List ℕ) → IsToken byte bs t → token_len t ≤ length bs
token_within t byte bs i = omega (arith, token_has t byte bs i, ap length (sym (token_split bs)) ∙ length-append (token bs) (after bs))

-- What is left of a text, as the lexer cuts it off.
pub is_first :
    (l : Lexer) (byte : ℕ) (t : Token) → byte ≡ place l → IsToken byte (take (length l.text.now - l.at) (drop l.at l.text.now)) t
    → IsToken (place l) (left l) t
is_first l byte t p i = subst (λ b. IsToken b (left l) t) p (subst (λ bs. IsToken byte bs t) (take_rest l.text.now l.at) i)
