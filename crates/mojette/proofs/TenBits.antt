-- Sum words of ten bits never wrap.
use Rattle.std.proofs.Common.{◌≡◌, ℕ, ◌*◌, ◌%◌, ◌^◌, ◌≤◌, Bool, true, false, cond, List, refl, ap, ◌∙◌, mod-eq_of_lt, arith}
use Rattle.samples.specs.declared.words.SumWord.{SumWord}
use Rattle.samples.specs.Kinds.{sum_words}
use Rattle.samples.specs.Words.{sum_zero}
use Rattle.samples.proofs.Sums.{value-sum_below}
use Rattle.samples.proofs.Totals.{total_same}
use Rattle.mojette.specs.declared.direction.Direction.{Direction}
use Rattle.mojette.specs.Bins.{raw_of, in_bin}
use Rattle.mojette.specs.Bounds.{most_side}
use Rattle.mojette.specs.TenBits.{most_ten_bits, number_at, plain_sum, TenBits, TenBitsNeverWrap}
use Rattle.mojette.specs.Transform.{bin_sum, sample_at}
use Rattle.mojette.proofs.Fewness.{line_most}

value-cond : (t : Bool) (x : SumWord) → (cond t x sum_zero).value ≡ cond t x.value 0
value-cond true x = refl
value-cond false x = refl

module _ (P Q : ℕ) (d : Direction) (tile : List SumWord) (b : ℕ) where
  modulo : (bin_sum sum_words P Q tile d b).value ≡ plain_sum P Q tile d b % 2 ^ 16
  modulo =
      value-sum_below sum_words 16 (λ (x : SumWord). x.value) refl (λ x y. refl) (P * Q) (sample_at sum_words P tile d (raw_of P Q d b))
      ∙ ap (λ n. n % 2 ^ 16) (total_same (P * Q) _ _ (λ c l. value-cond (in_bin P Q d c b) _))

  module _ (ten : TenBits P Q d tile) where
    few : plain_sum P Q tile d b ≤ most_side * most_ten_bits
    few = line_most P Q d ten.direction (raw_of P Q d b) (number_at tile) most_ten_bits ten.samples ten.columns ten.rows

    plain : (bin_sum sum_words P Q tile d b).value ≡ plain_sum P Q tile d b
    plain = modulo ∙ mod-eq_of_lt (omega (arith, few))

pub ten_bits_never_wrap : TenBitsNeverWrap
ten_bits_never_wrap = record { plain = λ P Q d tile ten b. plain P Q d tile b ten; most = λ P Q d tile ten b. few P Q d tile b ten }
