-- A whole text in the first cells of a table.
use Rattle.std.proofs.Common.{◌≡◌, ℕ, ◌<◌, ◌≤◌, ltb, List, [], ◌∷◌, ◌++◌, length, drop, codes as text, decimal, sym, ap, ◌∙◌, zero-add, arith}
use Rattle.std.proofs.lemmas.Bool.{cond-true, cond-false, lt-ltb, le-ltb}
use Rattle.mojette.specs.Faults.{served, refuses}
use Rattle.mojette.specs.Refusals.{Refusal, refusal}
use Rattle.format.specs.Listing.{refusal_text}
use Rattle.writing.specs.declared.writer.Writer.{Writer}
use Rattle.writing.specs.Lines.{line_text}
use Rattle.writing.specs.Splices.{spliced, filling}
use Rattle.writing.specs.Writers.{Writes}
use Rattle.writing.proofs.OfLines.{spaced_first, spaced_two}

splice_front : (t out : List ℕ) → spliced 0 t out ≡ t ++ drop (length t) out
unfolding spliced
splice_front t out = ap (λ n. t ++ drop n out) (zero-add (length t))

-- what a call leaves that wrote a text by a writer on the whole table
pub filled :
    {start end : Writer} (t out : List ℕ) (needed : ℕ) (last : List ℕ)
    → start.filled ≡ 0 → start.table.now ≡ out → Writes t start end → last ≡ end.table.now → needed ≡ length t → length t ≤ length out
    → (served needed, last) ≡ filling t out
filled t out needed last empty cells w l e h =
    (λ i. (served (e i), (l ∙ w.cells ∙ (λ j. spliced (empty j) t (cells j)) ∙ splice_front t out) i))
    ∙ sym (cond-false (ltb (length out) (length t)) _ _ (le-ltb (length out) (length t) h))

pub too_short : (t out : List ℕ) (needed : ℕ) → needed ≡ length t → length out < needed → (refuses (refusal 21 needed 0 0), out) ≡ filling t out
too_short t out needed e h =
    (λ i. (refuses (refusal 21 (e i) 0 0), out))
    ∙ sym (cond-true (ltb (length out) (length t)) _ _ (lt-ltb (length out) (length t) (omega arith)))

-- Refusals --------------------------------------------------------------------------------------------------------

pub refusal_line : (r : Refusal) → line_text (text "refused") (r.number ∷ (r.first ∷ (r.second ∷ (r.third ∷ [])))) ≡ refusal_text r
refusal_line r =
    let end = 41 ∷ (10 ∷ []) in
    ap (λ l. text "(refused" ++ l)
    (spaced_first decimal r.number (r.first ∷ (r.second ∷ (r.third ∷ []))) end
    ∙ ap (λ l. 32 ∷ (decimal r.number ++ l)) (spaced_first decimal r.first (r.second ∷ (r.third ∷ [])) end
    ∙ ap (λ l. 32 ∷ (decimal r.first ++ l)) (spaced_two decimal r.second r.third end)))
