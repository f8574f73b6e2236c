-- The criterion, and the ghost in the picture, as the code leaves them.
use Rattle.std.proofs.Common.{◌≡◌, ℕ, zero, suc, ◌≤◌, Bool, true, false, cond, List, ◌++◌, map, length, take as first, drop, Err, sym, refl, ap, ◌∙◌, arith}
use Rattle.std.specs.List.{range_with_len}
use Rattle.std.proofs.lemmas.List.FromFn.{fill_by_all}
use Rattle.std.proofs.lemmas.List.{take-append-drop, drop-set-lt, get_or-take, length-take-le}
use Rattle.std.proofs.lemmas.Bool.{cond-false, le-ltb}
use Rattle.samples.specs.declared.kind.Kind.{Ghosts as Operations}
use Rattle.mojette.specs.declared.fault.Fault.TheVariants.{Ghost}
use Rattle.mojette.specs.Faults.{served}
use Rattle.mojette.specs.Meaning.{Shape, pixels_of}
use Rattle.mojette.specs.Refusals.{refusal}
use Rattle.katz.specs.Made.{made, cell_of}
use Rattle.peeling.specs.Steps.{filled}
use Rattle.peeling.proofs.Loops.{length-filled, get_or-filled}
use Rattle.plan.specs.declared.criterion.Criterion.{Criterion}
use Rattle.plan.specs.Criteria.{whole_of, criterion_of}
use Rattle.plan.specs.Showing.{Shown, shown, showing}
use Rattle.plan.specs.Showing.{ghosted as tile_first}
use Rattle.law.specs.Steps.{ghosted}
use Rattle.tile.specs.Seals.{Judges}

-- n cells are filled, the others as they were
module _ {X : Type 0} (f : ℕ → X) (xs : List X) where
  others : (n m : ℕ) → n ≤ m → drop m (filled n f xs) ≡ drop m xs
  unfolding filled
  others zero m l = refl
  others (suc n) m l = drop-set-lt m (filled n f xs) n (f n) (omega arith) ∙ others n m (omega arith)

  pub filled_first : (n : ℕ) → n ≤ length xs → map f (range_with_len 0 n) ++ drop n xs ≡ filled n f xs
  filled_first n l =
      (λ j. sym front j ++ sym (others n n (omega arith)) j) ∙ take-append-drop n (filled n f xs)
    where
      front : first n (filled n f xs) ≡ map f (range_with_len 0 n)
      front = fill_by_all f (first n (filled n f xs)) n (f 0) (length-take-le n (filled n f xs) (let long = length-filled n f xs in omega arith))
          (λ k h. get_or-take n (filled n f xs) k (f 0) h ∙ get_or-filled n f xs (f 0) k l h)

module _ {S : Type 0} (K : Operations S) (s : Shape) (picture : List S) (long : pixels_of s ≤ length picture) where
  pub ghosted_is : tile_first K s picture ≡ ghosted K s picture
  unfolding ghosted
  ghosted_is = filled_first (cell_of s.P (made K s.P s.Q (whole_of s))) picture (pixels_of s) long

  by : Bool → Shown S
  by t = cond t (shown (served (criterion_of s)) picture) (shown (served (criterion_of s)) (tile_first K s picture))

  showing_is : showing K s picture ≡ by (criterion_of s).enough
  unfolding by
  showing_is = cond-false _ _ _ (le-ltb _ _ long)

  module _ (picture' : List S) where
    -- what the code answers, and the picture that it leaves
    shows : (c : Criterion) → shown (served c) picture' ≡ showing K s picture →
        (c ≡ criterion_of s) × (picture' ≡ cond (criterion_of s).enough picture (ghosted K s picture))
    unfolding by
    shows c e = go (criterion_of s).enough (e ∙ showing_is)
      where
        go : (t : Bool) → shown (served c) picture' ≡ by t → (c ≡ criterion_of s) × (picture' ≡ cond t picture (ghosted K s picture))
        go true h = let a : served c ≡ served (criterion_of s) = ap (λ x. x.answer) h in (cc, ap (λ x. x.picture) h)
        go false h = let a : served c ≡ served (criterion_of s) = ap (λ x. x.answer) h in (cc, ap (λ x. x.picture) h ∙ ghosted_is)

    module _ (c : Criterion) (e : shown (served c) picture' ≡ showing K s picture) where
      pub refuses_ghost : c.enough ≡ false → Judges K s picture (Err (Ghost c.columns c.rows)) picture'
      refuses_ghost t =
          let h = shows c e in
          let t' : (criterion_of s).enough ≡ false = ap (λ x. x.enough) (sym h.0) ∙ t in
          (t', h.1 ∙ cond-false _ _ _ t', ap (λ x. refusal 9 x.columns x.rows 0) h.0)
