-- A text is its first token and what follows, and a word before a mark is its first token.
use Rattle.std.proofs.Common.{◌≡◌, ℕ, Bool, true, false, cond, List, [], ◌∷◌, ◌++◌, length, drop, refl, ap, ◌∙◌}
use Rattle.std.proofs.lemmas.List.{drop_at}
use Rattle.std.proofs.lemmas.Bool.{cond-true, cond-false}
use Rattle.samples.specs.Names.{mark, Unmarked, IsWord}
use Rattle.format.specs.Tokens.{run, token, after}

-- no word goes on at the front of bs
abbrev pub Ends : List ℕ → Type 0
Ends [] = Unit {0}
Ends (b ∷ bs) = mark b ≡ true

run_word : (w r : List ℕ) → Unmarked w → Ends r → run (w ++ r) ≡ w
run_word [] [] u e = refl
run_word [] (b ∷ r) u e = cond-true (mark b) _ _ e
run_word (b ∷ w) r u e = cond-false (mark b) _ _ u.0 ∙ ap (λ l. b ∷ l) (run_word w r u.1 e)

pub token_word : (w r : List ℕ) → IsWord w → Ends r → token (w ++ r) ≡ w
token_word [] r i e = elim i [ ]
token_word (b ∷ w) r i e = cond-false (mark b) _ _ i.0 ∙ ap (λ l. b ∷ l) (run_word w r i.1 e)

pub after_word : (w r : List ℕ) → IsWord w → Ends r → after (w ++ r) ≡ r
after_word w r i e = ap (λ t. drop (length t) (w ++ r)) (token_word w r i e) ∙ drop_at w r _ refl

pub run_split : (bs : List ℕ) → run bs ++ drop (length (run bs)) bs ≡ bs
run_split [] = refl
run_split (b ∷ bs) = go (mark b) (run_split bs)
  where
    go : (m : Bool) → run bs ++ drop (length (run bs)) bs ≡ bs → cond m [] (b ∷ run bs) ++ drop (length (cond m [] (b ∷ run bs))) (b ∷ bs) ≡ b ∷ bs
    go true h = refl
    go false h = ap (λ l. b ∷ l) h

pub token_split : (bs : List ℕ) → token bs ++ after bs ≡ bs
token_split [] = refl
token_split (b ∷ bs) = go (mark b)
  where
    go : (m : Bool) → cond m (b ∷ []) (b ∷ run bs) ++ drop (length (cond m (b ∷ []) (b ∷ run bs))) (b ∷ bs) ≡ b ∷ bs
    go true = refl
    go false = ap (λ l. b ∷ l) (run_split bs)
