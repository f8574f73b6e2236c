-- A code is found again in the text by its number.
use Rattle.std.proofs.Common.{◌≡◌, ℕ, zero, suc, ◌+◌, ◌*◌, ◌<◌, List, [], ◌∷◌, ◌++◌, length, get_or, take, drop, unwrap_or, sym, ap, ◌∙◌, suc-mul, arith}
use Rattle.std.proofs.lemmas.List.FromFn.{fill_by_all}
use Rattle.std.proofs.lemmas.List.{take_at, drop_at, drop-drop}
use Rattle.samples.specs.declared.coded.Coded.{Ghosts as Codes}
use Rattle.samples.specs.declared.kind.Kind.{Ghosts as Operations}
use Rattle.samples.specs.Reading.{code, read_code}
use Rattle.samples.proofs.Codings.{one_to_one}
use Rattle.format.specs.Format.{codes_reader}
use Rattle.format.specs.Readers.{done}
use Rattle.format.specs.Texts.{codes_text}
use Rattle.format.proofs.Reading.{codes_back}
use Rattle.bracket.specs.Found.{found_from}

module _ {S : Type 0} (C : Codes S) where
  -- code k stands after k codes with their spaces, and a space
  code_stands :
      (xs : List S) (r : List ℕ) (k : ℕ) (d : S) → k < length xs
      → take C.width (drop (k * suc C.width + 1) (codes_text C xs r)) ≡ code C (get_or xs k d)
  code_stands [] r k d h = absurd (omega arith)
  code_stands (x ∷ xs) r zero d h =
      let e : zero * suc C.width + 1 ≡ 1 = omega arith in
      ap (λ j. take C.width (drop j (codes_text C (x ∷ xs) r))) e ∙ take_at (code C x) _ _ ((one_to_one C).digits x)
  code_stands (x ∷ xs) r (suc k) d h =
      let w = C.width in
      let e : suc k * suc w + 1 ≡ suc (w + (k * suc w + 1)) = omega (arith, suc-mul k (suc w)) in
      let past : drop w (code C x ++ codes_text C xs r) ≡ codes_text C xs r = drop_at (code C x) _ _ ((one_to_one C).digits x) in
      ap (λ j. take w (drop j (codes_text C (x ∷ xs) r))) e
      ∙ ap (take w) (sym (drop-drop (k * suc w + 1) w (code C x ++ codes_text C xs r)) ∙ ap (drop (k * suc w + 1)) past)
      ∙ code_stands xs r k d (omega arith)

  -- codes that were read from byte `at` on
  pub codes_found :
      (K : Operations S) (n b at : ℕ) (t : List ℕ) (xs : List S) (r : List ℕ) → codes_reader C n b (drop at t) ≡ done xs r
      → xs ≡ found_from K C t at b
  codes_found K n b at t xs r h =
      let g = codes_back C n b (drop at t) xs r h in
      let w = C.width in
      fill_by_all _ xs b K.zero g.count λ k l.
      let inside : k < length xs = omega (arith, g.count) in
      let e : at + k * suc w + 1 ≡ at + (k * suc w + 1) = omega arith in
      let part : take w (drop (at + k * suc w + 1) t) ≡ code C (get_or xs k K.zero) =
      ap (λ j. take w (drop j t)) e ∙ ap (take w) (sym (drop-drop (k * suc w + 1) at t) ∙ ap (drop (k * suc w + 1)) g.is) ∙ code_stands xs r k K.zero inside in
      sym (ap (λ v. unwrap_or (read_code C v) K.zero) part ∙ ap (λ o. unwrap_or o K.zero) ((one_to_one C).reads_back (get_or xs k K.zero)))
