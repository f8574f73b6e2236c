-- The projection of a tile of ones has the number of pixels of each bin.
use Rattle.std.proofs.Common.{◌≡◌, ℕ, ◌*◌, ◌<◌, ◌≤◌, true, cond, List, ◌++◌, length, get_or, drop, sym, ap, ◌∙◌, subst, arith}
use Rattle.std.proofs.lemmas.List.FromFn.{length-map-range_with_len, get_or-map-range_with_len}
use Rattle.std.proofs.lemmas.List.{get_or_append_left}
use Rattle.std.proofs.lemmas.Bool.{cond-false, le-ltb, and_from, not_from_true}
use Rattle.samples.specs.declared.words.SumWord.{SumWord}
use Rattle.samples.specs.Kinds.{sum_words}
use Rattle.samples.specs.Words.{sum_zero}
use Rattle.samples.proofs.Totals.{total_same}
use Rattle.mojette.specs.declared.direction.Direction.{Direction}
use Rattle.mojette.specs.Bins.{bins, raw_of, in_bin}
use Rattle.mojette.specs.Bounds.{most_side}
use Rattle.mojette.specs.Directions.{lawful}
use Rattle.mojette.specs.Faults.{served}
use Rattle.mojette.specs.Meaning.{side_ok}
use Rattle.mojette.specs.TenBits.{TenBits}
use Rattle.mojette.specs.Transform.{bin_sum, projection}
use Rattle.mojette.proofs.Fewness.{line_most}
use Rattle.mojette.proofs.TenBits.{ten_bits_never_wrap}
use Rattle.plan.specs.Projecting.{projected, projecting}
use Rattle.plan.proofs.Cells.{side_most}
use Rattle.source.specs.Strips.{pixels_in}

module _ (P Q : ℕ) (d : Direction) (picture : List SumWord) where
  module _ (sums : List SumWord) (p : side_ok P ≡ true) (q : side_ok Q ≡ true) (l : lawful d ≡ true) (long : P * Q ≤ length picture) (room : bins P Q d ≤ length sums) where
    served_all : projecting sum_words P Q d picture sums ≡ projected (served (bins P Q d)) (projection sum_words P Q picture d ++ drop (bins P Q d) sums)
    served_all =
        cond-false _ _ _ (not_from_true _ (and_from _ _ p q)) ∙ cond-false _ _ _ (not_from_true _ l) ∙ cond-false _ _ _ (le-ltb (length picture) (P * Q) long)
        ∙ cond-false _ _ _ (le-ltb (length sums) (bins P Q d) room)

    module _ (n : ℕ) (after : List SumWord) (e : projected (served n) after ≡ projecting sum_words P Q d picture sums) where
      pub bins_counted : n ≡ bins P Q d
      bins_counted = let a : served n ≡ served (bins P Q d) = ap (λ x. x.answer) (e ∙ served_all) in cc

      pub pixels_counted :
          ((c : ℕ) → c < P * Q → (get_or picture c sum_zero).value ≡ 1) → (b : ℕ) → b < bins P Q d → (get_or after b sum_zero).value ≡ pixels_in P Q d b
      pixels_counted ones b h =
          let inside : b < length (projection sum_words P Q picture d) = subst (λ k. b < k) (sym (length-map-range_with_len (bin_sum sum_words P Q picture d) 0 (bins P Q d))) h in
          let ten : TenBits P Q d picture = record {
            columns = (side_most P p).1;
            rows = (side_most Q q).1;
            direction = l;
            samples = λ c k. omega (arith, ones c k);
          } in
          ap (λ x. (get_or x.sums b sum_zero).value) (e ∙ served_all)
          ∙ ap (λ w. w.value) (get_or_append_left (projection sum_words P Q picture d) (drop (bins P Q d) sums) sum_zero b inside
          ∙ get_or-map-range_with_len (bin_sum sum_words P Q picture d) 0 (bins P Q d) b b sum_zero h (omega arith))
          ∙ ten_bits_never_wrap.plain P Q d picture ten b
          ∙ total_same (P * Q) (λ c. cond (in_bin P Q d c b) (get_or picture c sum_zero).value 0) (λ c. cond (in_bin P Q d c b) 1 0) (λ c k. ap (λ n. cond (in_bin P Q d c b) n 0) (ones c k))

      -- the most that a row or a column has
      pub counted_few : ((c : ℕ) → c < P * Q → (get_or picture c sum_zero).value ≡ 1) → (b : ℕ) → b < bins P Q d → (get_or after b sum_zero).value ≤ most_side
      counted_few ones b h =
          omega (arith, pixels_counted ones b h, line_most P Q d l (raw_of P Q d b) (λ c. 1) 1 (λ c k. omega arith) (side_most P p).1 (side_most Q q).1)
