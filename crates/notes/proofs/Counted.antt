-- What notes tell of the pixels that they stand for.
use Rattle.std.proofs.Common.{◌≡◌, ℕ, zero, suc, ◌+◌, ◌-◌, ◌%◌, ◌^◌, ◌<◌, ◌≤◌, Bool, true, false, cond, refl, sym, ap, ap₂, ◌∙◌, ⊎_elim, arith}
use Rattle.std.proofs.lemmas.Bool.{cases_eq}
use Rattle.samples.specs.Sums.{sum_below}
use Rattle.samples.proofs.Sums.{sum_zero}
use Rattle.mojette.specs.Bounds.{most_pixels}
use Rattle.peeling.specs.Counting.{one_if, tally, number}
use Rattle.peeling.proofs.Counts.{number_le, number_none, number_some, one_if_no}
use Rattle.notes.specs.declared.note.Note.{Note}
use Rattle.notes.specs.Words.{note_plus, note_inverse, note_zero, note_laws}
use Rattle.notes.specs.Notes.{notes, note_of_cell, pixels_noted, cell_noted}

-- counted modulo 2^13, of which 2^32 is a multiple
pub pixels_plus : (x y : Note) → pixels_noted (note_plus x y) ≡ (pixels_noted x + pixels_noted y) % 2 ^ 13
pixels_plus x y = omega arith

-- one pixel less
pub pixels_less : (x u : Note) (n : ℕ) → pixels_noted x ≡ n → 1 ≤ n → pixels_noted u ≡ 1 → pixels_noted (note_plus x (note_inverse u)) ≡ n - 1
pixels_less x u n e l one = let f = u.fits in omega arith

pub pixels_of_cell : (c : ℕ) → pixels_noted (note_of_cell c) ≡ 1
pixels_of_cell c = omega arith

pub cell_of_cell : (c : ℕ) → c < most_pixels → cell_noted (note_of_cell c) ≡ c
cell_of_cell c l = omega arith

one_more : (x : Note) (n : ℕ) → pixels_noted x ≡ n → n < most_pixels → (c : ℕ) (b : Bool) → pixels_noted (note_plus x (cond b (note_of_cell c) note_zero)) ≡ n + one_if b
one_more x n e l c true = omega arith
one_more x n e l c false = omega arith

pub pixels_sum : (n : ℕ) (p : ℕ → Bool) → n ≤ most_pixels → pixels_noted (sum_below notes n (λ c. cond (p c) (note_of_cell c) note_zero)) ≡ number n p
unfolding sum_below number tally
pixels_sum zero p l = refl
pixels_sum (suc n) p l =
    let few = number_le n p in
    one_more (sum_below notes n (λ c. cond (p c) (note_of_cell c) note_zero)) (number n p) (pixels_sum n p (omega arith)) (omega arith) n (p n)

-- where one alone passes, the sum is its note
pub sum_alone : (n : ℕ) (p : ℕ → Bool) (c : ℕ) → c < n → p c ≡ true → number n p ≤ 1 → sum_below notes n (λ k. cond (p k) (note_of_cell k) note_zero) ≡ note_of_cell c
unfolding sum_below number tally
sum_alone zero p c l e one = absurd (omega arith)
sum_alone (suc n) p c l e one = ⊎_elim
    (λ (is : c ≡ n).
    let here : p n ≡ true = ap p (sym is) ∙ e in
    let none = number_none n p (let yes = ap one_if here in omega arith) in
    ap₂ note_plus (sum_zero notes n _ (λ k m. ap (λ t. cond t (note_of_cell k) note_zero) (none k m))) (ap (λ t. cond t (note_of_cell n) note_zero) here)
    ∙ note_laws.comm note_zero (note_of_cell n) ∙ note_laws.neutral (note_of_cell n) ∙ ap note_of_cell (sym is))
    (λ (not-it : c ≡ n → ⊥).
    let some = number_some n p c (omega arith) e in
    let other = one_if_no (p n) (omega arith) in
    ap₂ note_plus (sum_alone n p c (omega arith) e (omega arith)) (ap (λ t. cond t (note_of_cell n) note_zero) other)
    ∙ note_laws.neutral (note_of_cell c))
    (cases_eq c n)
