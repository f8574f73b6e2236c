-- The lines of the lost places, one by one.
use Rattle.std.proofs.Common.{◌≡◌, ℕ, suc, ◌+◌, ◌<◌, ◌≤◌, Bool, true, false, cond, List, [], ◌∷◌, ◌++◌, length, take, drop, codes as text, decimal, sym, refl, ap, ◌∙◌, append_assoc, append-nil, arith, length-append, take-append-drop}
use Rattle.std.proofs.lemmas.List.{length-map, length-take-le, map-append, take_more}
use Rattle.std.proofs.lemmas.Bool.{cond-true, cond-false, eq-eqb, ne_eqb}
use Rattle.mojette.specs.declared.direction.Record.{Record}
use Rattle.mojette.specs.Bins.{whole}
use Rattle.plan.specs.declared.places.Place.{Place}
use Rattle.plan.specs.Laid.{record_of, records_of, no_place, place_at}
use Rattle.format.specs.Listing.{lost_text}
use Rattle.writing.specs.Lines.{line_text}
use Rattle.writing.proofs.OfLines.{spaced_two}

-- the line of place i, lost for cause c
abbrev lost_line : ℕ → ℕ → List ℕ → List ℕ
lost_line i c bs = text "(lost " ++ (decimal i ++ (32 ∷ (decimal c ++ (text ")" ++ (10 ∷ bs)))))

line_on : (i c : ℕ) (bs : List ℕ) → lost_line i c bs ≡ lost_line i c [] ++ bs
line_on i c bs = sym (simp append_assoc)

pub lost_on : (i : ℕ) (es : List Record) (bs : List ℕ) → lost_text i es bs ≡ lost_text i es [] ++ bs
lost_on i [] bs = refl
lost_on i (e ∷ es) bs = go (whole e) (lost_on (suc i) es bs)
  where
    go :
        (w : Bool) → lost_text (suc i) es bs ≡ lost_text (suc i) es [] ++ bs
        → cond w (lost_text (suc i) es bs) (lost_line i e.cause (lost_text (suc i) es bs))
        ≡ cond w (lost_text (suc i) es []) (lost_line i e.cause (lost_text (suc i) es [])) ++ bs
    go true h = h
    go false h =
        ap (lost_line i e.cause) h
        ∙ line_on i e.cause (lost_text (suc i) es [] ++ bs)
        ∙ sym (append_assoc (lost_line i e.cause []) (lost_text (suc i) es []) bs)
        ∙ ap (λ l. l ++ bs) (sym (line_on i e.cause (lost_text (suc i) es [])))

lost_join : (i : ℕ) (xs ys : List Record) → lost_text i (xs ++ ys) [] ≡ lost_text i xs (lost_text (i + length xs) ys [])
lost_join i [] ys = let e : i + 0 ≡ i = omega arith in ap (λ k. lost_text k ys []) (sym e)
lost_join i (x ∷ xs) ys =
    let e : suc i + length xs ≡ i + suc (length xs) = omega arith in
    let h = lost_join (suc i) xs ys ∙ ap (λ k. lost_text (suc i) xs (lost_text k ys [])) e in
    ap (λ l. cond (whole x) l (lost_line i x.cause l)) h

-- the lines of some places
abbrev lines_of : List Place → List ℕ
lines_of xs = lost_text 0 (records_of xs) []

module _ (xs : List Place) (i : ℕ) (inside : i < length xs) where
  abbrev x : Place
  x = place_at xs i

  one_more : lines_of (take (i + 1) xs) ≡ lines_of (take i xs) ++ lost_text i (record_of x ∷ []) []
  one_more =
      let n : 0 + length (records_of (take i xs)) ≡ i = omega (arith, length-map (take i xs) record_of, length-take-le i xs (omega arith)) in
      ap lines_of (take_more xs i no_place inside)
      ∙ ap (λ l. lost_text 0 l []) (map-append record_of (take i xs) (x ∷ []))
      ∙ lost_join 0 (records_of (take i xs)) (record_of x ∷ [])
      ∙ ap (λ k. lost_text 0 (records_of (take i xs)) (lost_text k (record_of x ∷ []) [])) n
      ∙ lost_on 0 (records_of (take i xs)) (lost_text i (record_of x ∷ []) [])

  -- a whole place has no line
  pub lost_skip : x.cause ≡ 0 → lines_of (take i xs) ≡ lines_of (take (i + 1) xs)
  lost_skip z = sym (one_more ∙ ap (λ l. lines_of (take i xs) ++ l) (cond-true (whole (record_of x)) _ _ (eq-eqb x.cause 0 z)) ∙ append-nil _)

  -- a lost place has one
  pub lost_more :
      (cause : ℕ) → cause ≡ x.cause → (x.cause ≡ 0 → ⊥)
      → lines_of (take i xs) ++ line_text (text "lost") (i ∷ (cause ∷ [])) ≡ lines_of (take (i + 1) xs)
  lost_more cause e ne =
      ap (λ l. lines_of (take i xs) ++ (text "(lost" ++ l)) (spaced_two decimal i cause (41 ∷ (10 ∷ [])))
      ∙ ap (λ c. lines_of (take i xs) ++ lost_line i c []) e
      ∙ sym (one_more ∙ ap (λ l. lines_of (take i xs) ++ l) (cond-false (whole (record_of x)) _ _ (ne_eqb x.cause 0 ne)))

  -- the lines so far are not longer than all lines
  pub lost_within : length (lines_of (take (i + 1) xs)) ≤ length (lines_of xs)
  lost_within =
      let rest = lost_text (0 + length (records_of (take (i + 1) xs))) (records_of (drop (i + 1) xs)) [] in
      let e : lines_of xs ≡ lines_of (take (i + 1) xs) ++ rest =
      ap lines_of (sym (take-append-drop (i + 1) xs)) ∙ ap (λ l. lost_text 0 l []) (map-append record_of (take (i + 1) xs) (drop (i + 1) xs))
      ∙ lost_join 0 (records_of (take (i + 1) xs)) (records_of (drop (i + 1) xs)) ∙ lost_on 0 (records_of (take (i + 1) xs)) rest in
      omega (arith, ap length e, length-append (lines_of (take (i + 1) xs)) rest)
