-- Texts written one after another.
use Rattle.std.proofs.Common.{◌≡◌, ℕ, ◌+◌, ◌-◌, ◌≤◌, List, [], ◌++◌, length, take, drop, refl, sym, ap, ◌∙◌, subst, append_assoc, append-nil, add-zero, arith, length-append, take-append-drop}
use borrow.Rule.Slice.PartMut.{put_mid}
use Rattle.std.proofs.lemmas.List.{take_at, drop_at, take_all, drop_all, length-take-le, length-drop, drop-drop}
use Rattle.writing.specs.declared.writer.Writer.{Writer}
use Rattle.writing.specs.Splices.{spliced}
use Rattle.writing.specs.Writers.{Writes}

pub splice_none : (from : ℕ) (out : List ℕ) → spliced from [] out ≡ out
unfolding spliced
splice_none from out = ap (λ i. take from out ++ drop i out) (add-zero from) ∙ take-append-drop from out

-- a text, and then another
pub splice_more : (from : ℕ) (s t out : List ℕ) → from ≤ length out → spliced (from + length s) t (spliced from s out) ≡ spliced from (s ++ t) out
unfolding spliced
splice_more from s t out h =
    let front : length (take from out ++ s) ≡ from + length s = length-append (take from out) s ∙ ap (λ n. n + length s) (length-take-le from out h) in
    let whole : take from out ++ (s ++ drop (from + length s) out) ≡ (take from out ++ s) ++ drop (from + length s) out = sym (append_assoc (take from out) s (drop (from + length s) out)) in
    let left : take (from + length s) (take from out ++ (s ++ drop (from + length s) out)) ≡ take from out ++ s = ap (take (from + length s)) whole ∙ take_at _ _ _ front in
    let e : from + length s + length t ≡ from + length (s ++ t) = omega (arith, length-append s t) in
    let right : drop (from + length s + length t) (take from out ++ (s ++ drop (from + length s) out)) ≡ drop (from + length (s ++ t)) out =
    sym (drop-drop (length t) (from + length s) _) ∙ ap (drop (length t)) (ap (drop (from + length s)) whole ∙ drop_at _ _ _ front) ∙ drop-drop (length t) (from + length s) out ∙ ap (λ j. drop j out) e in
    (λ i. left i ++ (t ++ right i)) ∙ append_assoc (take from out) s _ ∙ ap (λ l. take from out ++ l) (sym (append_assoc s t _))

-- what `copy_from_slice` leaves
pub put_cells : (from : ℕ) (out text part : List ℕ) → part ≡ text → put_mid from (from + length text - from) out part ≡ spliced from text out
unfolding spliced
put_cells from out text part e =
    let k : from + length text - from ≡ length text = omega arith in
    (λ i. take from out ++ (e i ++ drop (k i) (drop from out))) ∙ ap (λ l. take from out ++ (text ++ l)) (drop-drop (length text) from out)

-- a text that was written into the first of many cells
pub written_cells :
    (from : ℕ) (out text part : List ℕ) → from ≤ length out → part ≡ text ++ drop (length text) (take (length out - from) (drop from out))
    → put_mid from (length out - from) out part ≡ spliced from text out
unfolding spliced
written_cells from out text part h e =
    let k : length (drop from out) ≤ length out - from = omega (arith, length-drop from out) in
    let all : part ≡ text ++ drop (from + length text) out =
    e ∙ ap (λ l. text ++ drop (length text) l) (take_all _ _ k) ∙ ap (λ l. text ++ l) (drop-drop (length text) from out) in
    ap (λ l. take from out ++ (part ++ l)) (drop_all _ _ k) ∙ ap (λ l. take from out ++ l) (append-nil part ∙ all)

-- By a writer ---------------------------------------------------------------------------------------------------------

pub writes_none : (w : Writer) → w.filled ≤ length w.table.now → Writes [] w w
writes_none w h = record {
  same_table = refl;
  same_length = refl;
  filled = omega arith;
  inside = h;
  cells = sym (splice_none w.filled w.table.now);
}

pub writes_more : {s t : List ℕ} {u v w : Writer} → Writes s u v → Writes t v w → Writes (s ++ t) u w
writes_more {s} {t} {u} {v} {w} a b = record {
  same_table = b.same_table ∙ a.same_table;
  same_length = b.same_length ∙ a.same_length;
  filled = omega (arith, length-append s t);
  inside = b.inside;
  cells = b.cells ∙ (λ i. spliced (a.filled i) t (a.cells i)) ∙ splice_more u.filled s t u.table.now (omega arith);
}

pub writes_same : {s t : List ℕ} {u v : Writer} → s ≡ t → Writes s u v → Writes t u v
writes_same {u} {v} e w = subst (λ text. Writes text u v) e w
