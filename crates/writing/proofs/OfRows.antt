-- The lines of the rows of a picture, one by one.
use Rattle.std.proofs.Common.{◌≡◌, ℕ, zero, suc, ◌+◌, ◌*◌, ◌<◌, ◌≤◌, List, [], ◌∷◌, ◌++◌, length, get_or, take, drop, codes as text, sym, refl, ap, ◌∙◌, append_assoc, append-nil, mul-le-mul_right, suc-mul, mul_comm, arith, length-append}
use Rattle.std.proofs.Math.Nat.{lt_of_mul-lt-mul_right}
use Rattle.std.proofs.Math.Seq.{drop-append_seam}
use Rattle.std.proofs.lemmas.List.FromFn.{fill_by_all, length-map-range_with_len}
use Rattle.std.proofs.lemmas.List.{length-take-le, length-drop, get_or-take, get_or-drop, get_or_append_left, drop-drop}
use Rattle.samples.specs.declared.coded.Coded.{Ghosts as Codes}
use Rattle.samples.specs.declared.kind.Kind.{Ghosts as Operations}
use Rattle.samples.specs.Reading.{code}
use Rattle.samples.proofs.Digits.{length-hex_text}
use Rattle.format.specs.Listing.{row, rows_text}
use Rattle.format.specs.Texts.{codes_text}
use Rattle.writing.specs.Lines.{spaced, row_text}
use Rattle.writing.proofs.OfLines.{spaced_first}

module _ {S : Type 0} (C : Codes S) where
  pub codes_told : (xs : List S) (bs : List ℕ) → codes_text C xs bs ≡ spaced (code C) xs ++ bs
  codes_told [] bs = refl
  codes_told (x ∷ xs) bs = ap (λ l. 32 ∷ (code C x ++ l)) (codes_told xs bs) ∙ sym (spaced_first (code C) x xs bs)

  row_told : (xs : List S) (bs : List ℕ) → text "(row" ++ codes_text C xs (text ")" ++ (10 ∷ bs)) ≡ row_text C xs ++ bs
  row_told xs bs =
      ap (λ l. text "(row" ++ l) (codes_told xs (41 ∷ (10 ∷ bs)) ∙ sym (append_assoc (spaced (code C) xs) (41 ∷ (10 ∷ [])) bs))

  pub length-codes : (xs : List S) → length (spaced (code C) xs) ≡ length xs * suc C.width
  length-codes [] = omega arith
  length-codes (x ∷ xs) =
      ap suc (length-append (code C x) (spaced (code C) xs))
      ∙ omega (arith, length-hex_text C.width (C.number x), length-codes xs, suc-mul (length xs) (suc C.width))

  length-row : (xs : List S) → length (row_text C xs) ≡ length xs * suc C.width + 6
  length-row xs = simp length-append (omega (arith, length-codes xs))

module _ {S : Type 0} (K : Operations S) (C : Codes S) (P : ℕ) (tile : List S) where
  -- a row is a part of the picture
  row_part : (l : ℕ) (part : List S) → length part ≡ P → ((k : ℕ) → k < P → get_or part k K.zero ≡ get_or tile (l * P + k) K.zero) → part ≡ row K C P tile l
  row_part l part e h = fill_by_all _ part P K.zero e h

  pub rows_on : (l n : ℕ) (bs : List ℕ) → rows_text K C P tile l n bs ≡ rows_text K C P tile l n [] ++ bs
  rows_on l zero bs = refl
  rows_on l (suc n) bs =
      let r = row K C P tile l in
      row_told C r (rows_text K C P tile (suc l) n bs)
      ∙ ap (λ x. row_text C r ++ x) (rows_on (suc l) n bs)
      ∙ sym (append_assoc (row_text C r) (rows_text K C P tile (suc l) n []) bs)
      ∙ ap (λ x. x ++ bs) (sym (row_told C r (rows_text K C P tile (suc l) n [])))

  rows_push : (l n : ℕ) → rows_text K C P tile l (n + 1) [] ≡ rows_text K C P tile l n [] ++ row_text C (row K C P tile (l + n))
  rows_push l zero =
      let e : l + 0 ≡ l = omega arith in
      row_told C (row K C P tile l) [] ∙ append-nil _ ∙ ap (λ k. row_text C (row K C P tile k)) (sym e)
  rows_push l (suc n) =
      let r = row K C P tile l in
      let e : l + suc n ≡ suc l + n = omega arith in
      let s : suc n + 1 ≡ suc (n + 1) = omega arith in
      ap (λ k. rows_text K C P tile l k []) s
      ∙ row_told C r (rows_text K C P tile (suc l) (n + 1) [])
      ∙ ap (λ x. row_text C r ++ x) (rows_push (suc l) n)
      ∙ sym (append_assoc (row_text C r) (rows_text K C P tile (suc l) n []) (row_text C (row K C P tile (suc l + n))))
      ∙ (λ i. sym (row_told C r (rows_text K C P tile (suc l) n [])) i ++ row_text C (row K C P tile (sym e i)))

  pub length-rows : (l n : ℕ) → length (rows_text K C P tile l n []) ≡ n * (P * suc C.width + 6)
  length-rows l zero = omega arith
  length-rows l (suc n) =
      let r = row K C P tile l in
      ap length (row_told C r (rows_text K C P tile (suc l) n []))
      ∙ length-append (row_text C r) (rows_text K C P tile (suc l) n [])
      ∙ omega (arith, length-row C r, ap (λ m. m * suc C.width) (length-map-range_with_len (λ k. get_or tile (l * P + k) K.zero) 0 P), length-rows (suc l) n, suc-mul n (P * suc C.width + 6))

  -- The rows of the first P·Q pixels: n of them told, then a part of P pixels, then the rest.
  module _ (Q n : ℕ) (part rest : List S) (some : 1 ≤ P) (pixels : P * Q ≤ length tile) (wide : length part ≡ P) (more : drop (n * P) (take (P * Q) tile) ≡ part ++ rest) where
    inside : n * P + P ≤ P * Q
    inside =
        omega (arith, ap length more, length-append part rest, length-drop (n * P) (take (P * Q) tile), length-take-le (P * Q) tile pixels)

    pub row_below : n < Q
    row_below = lt_of_mul-lt-mul_right P (omega (arith, inside, mul_comm P Q))

    -- one more row
    pub rows_more : rows_text K C P tile 0 n [] ++ row_text C part ≡ rows_text K C P tile 0 (n + 1) []
    rows_more =
        let z : 0 + n ≡ n = omega arith in
        let each : (k : ℕ) → k < P → get_or part k K.zero ≡ get_or tile (n * P + k) K.zero =
        λ k i.
        sym (get_or_append_left part rest K.zero k (omega (arith, wide)))
        ∙ ap (λ l. get_or l k K.zero) (sym more)
        ∙ get_or-drop (n * P) (take (P * Q) tile) k K.zero
        ∙ get_or-take (P * Q) tile (n * P + k) K.zero (omega (arith, inside)) in
        ap (λ r. rows_text K C P tile 0 n [] ++ row_text C r) (row_part n part wide each ∙ ap (row K C P tile) (sym z)) ∙ sym (rows_push 0 n)

    -- what is left after it
    pub rows_left : rest ≡ drop ((n + 1) * P) (take (P * Q) tile)
    rows_left =
        let e : n * P + P ≡ (n + 1) * P = omega (arith, suc-mul n P) in
        sym (drop-append_seam part rest) ∙ (λ i. drop (wide i) (sym more i)) ∙ drop-drop P (n * P) (take (P * Q) tile) ∙ ap (λ m. drop m (take (P * Q) tile)) e

    -- its line fits where all lines fit
    pub row_within : length (rows_text K C P tile 0 n []) + length (row_text C part) ≤ length (rows_text K C P tile 0 Q [])
    row_within =
        let line = P * suc C.width + 6 in
        let e : length part * suc C.width ≡ P * suc C.width = ap (λ m. m * suc C.width) wide in
        omega (arith, length-rows 0 n, length-rows 0 Q, length-row C part, suc-mul n line, mul-le-mul_right line row_below)

  -- no row is left
  pub rows_end : (Q n : ℕ) → n ≤ Q → P * Q ≤ length tile → length (drop (n * P) (take (P * Q) tile)) < P → n ≡ Q
  rows_end Q n below pixels short =
      let left : Q * P < suc n * P = omega (arith, length-drop (n * P) (take (P * Q) tile), length-take-le (P * Q) tile pixels, mul_comm P Q, suc-mul n P) in
      omega (arith, lt_of_mul-lt-mul_right P left)
