-- Cells that begin with the values of a function.
use Rattle.std.proofs.Common.{◌≡◌, ℕ, ◌<◌, List, map, ◌++◌, length, get_or, slice_get, Some, sym, ap, ◌∙◌, subst, arith}
use Rattle.std.proofs.lemmas.List.FromFn.{length-map-range_with_len, get_or-map-range_with_len}
use Rattle.std.proofs.lemmas.List.{get_or_append_left, length-append}
use Rattle.std.proofs.lemmas.Option.{slice_get-get_or}
use Rattle.std.specs.List.{range_with_len}

module _ {X : Type 0} (f : ℕ → X) (n : ℕ) (rest : List X) where
  -- Each of the first n cells holds its value.
  pub leading : (cells : List X) → cells ≡ map f (range_with_len 0 n) ++ rest → (b : ℕ) → b < n → slice_get cells b ≡ Some (f b)
  leading cells e b h = ap (λ xs. slice_get xs b) e ∙ slice_get-get_or whole b (f b) inside ∙ ap Some value
    where
      first : List X
      first = map f (range_with_len 0 n)

      whole : List X
      whole = first ++ rest

      in_first : b < length first
      in_first = subst (λ k. b < k) (sym (length-map-range_with_len f 0 n)) h

      inside : b < length whole
      inside = omega (arith, in_first, length-append first rest)

      value : get_or whole b (f b) ≡ f b
      value = get_or_append_left first rest (f b) b in_first ∙ get_or-map-range_with_len f 0 n b b (f b) h (omega arith)
