-- Items told one after another, each after a space.
use Rattle.std.proofs.Common.{◌≡◌, ℕ, ◌+◌, ◌<◌, ◌≤◌, List, [], ◌∷◌, ◌++◌, length, get_or, take, sym, ap, ◌∙◌, append_assoc, append-nil, arith}
use Rattle.std.proofs.lemmas.List.{take_more}
use Rattle.std.proofs.lemmas.List.Concat.{flat_map-append}
use Rattle.std.proofs.lemmas.List.Folds.{length-flat_map-take}
use Rattle.writing.specs.Lines.{spaced}

module _ {A : Type 0} (f : A → List ℕ) (xs : List A) (i : ℕ) (d : A) (t : List ℕ) (same : t ≡ f (get_or xs i d)) (inside : i < length xs) where
  -- one more item, whose text is t
  pub spaced_more : spaced f (take i xs) ++ (32 ∷ []) ++ t ≡ spaced f (take (i + 1) xs)
  spaced_more =
      append_assoc (spaced f (take i xs)) (32 ∷ []) t
      ∙ ap (λ l. spaced f (take i xs) ++ (32 ∷ l)) (same ∙ sym (append-nil (f (get_or xs i d))))
      ∙ sym (flat_map-append (λ x. 32 ∷ f x) (take i xs) (get_or xs i d ∷ []))
      ∙ ap (spaced f) (sym (take_more xs i d inside))

  -- so far, and with one more
  pub spaced_within : length (spaced f (take i xs)) + (length t + 1) ≤ length (spaced f xs)
  spaced_within = omega (arith, ap length same, length-flat_map-take (λ x. 32 ∷ f x) xs i d inside)

-- the first of some items
pub spaced_first : {A : Type 0} (f : A → List ℕ) (x : A) (xs : List A) (bs : List ℕ) → spaced f (x ∷ xs) ++ bs ≡ 32 ∷ (f x ++ (spaced f xs ++ bs))
spaced_first f x xs bs = ap (λ l. 32 ∷ l) (append_assoc (f x) (spaced f xs) bs)

pub spaced_two : {A : Type 0} (f : A → List ℕ) (x y : A) (bs : List ℕ) → spaced f (x ∷ (y ∷ [])) ++ bs ≡ 32 ∷ (f x ++ (32 ∷ (f y ++ bs)))
spaced_two f x y bs = spaced_first f x (y ∷ []) bs ∙ ap (λ l. 32 ∷ (f x ++ l)) (spaced_first f y [] bs)
