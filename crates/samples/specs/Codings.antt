-- The names and numbers of sum words, XOR words and pairs of one of each; codes and their reading for every kind that has them.
use Rattle.std.specs.Prelude.{codes as text, refl, ℕ, ◌+◌, ◌*◌, ◌/◌, ◌^◌}
use Rattle.std.proofs.Common.{arith, lit<, lit≤}
use Rattle.samples.specs.declared.words.Pair.{Pair}
use Rattle.samples.specs.declared.words.SumWord.{SumWord}
use Rattle.samples.specs.declared.words.XorWord.{XorWord}
use Rattle.samples.specs.Codes.{Coding}
use Rattle.samples.specs.Names.{Naming}
use Rattle.samples.specs.Pairs.{pair_of}
use Rattle.samples.specs.Words.{sum_of, sum_same, xor_of, xor_same}

pub sum_naming : Naming (text "sum")
sum_naming = record { word = (refl, (refl, (refl, tt))); short = lit≤ tt }

abbrev pub sum_number : SumWord → ℕ
sum_number x = x.value

pub sum_coding : Coding 4 sum_number sum_of
sum_coding = record {
  some_digits = lit< tt;
  few_digits = lit≤ tt;
  number_fits = λ x. x.fits;
  sample_number = λ x. sum_same _ _ (let f = x.fits in omega arith);
  number_sample = λ n h. omega arith;
}

pub xor_naming : Naming (text "xor")
xor_naming = record { word = (refl, (refl, (refl, tt))); short = lit≤ tt }

abbrev pub xor_number : XorWord → ℕ
xor_number x = x.value

pub xor_coding : Coding 8 xor_number xor_of
xor_coding = record {
  some_digits = lit< tt;
  few_digits = lit≤ tt;
  number_fits = λ x. x.fits;
  sample_number = λ x. xor_same _ _ (let f = x.fits in omega arith);
  number_sample = λ n h. omega arith;
}

pub pair_naming : Naming (text "pair")
pair_naming = record { word = (refl, (refl, (refl, (refl, tt)))); short = lit≤ tt }

-- The digits of the sum word, then those of the XOR word.
abbrev pub pair_number : Pair SumWord XorWord → ℕ
pair_number x = x.first.value * 2 ^ 32 + x.second.value

abbrev pub pair_sample : ℕ → Pair SumWord XorWord
pair_sample n = pair_of (sum_of (n / 2 ^ 32)) (xor_of n)

pub pair_coding : Coding 12 pair_number pair_sample
pair_coding = record {
  some_digits = lit< tt;
  few_digits = lit≤ tt;
  number_fits = λ x. let f = x.first.fits in let g = x.second.fits in omega arith;
  sample_number = λ x. let f = x.first.fits in let g = x.second.fits in λ i. pair_of (sum_same (sum_of (pair_number x / 2 ^ 32)) x.first (omega arith) i) (xor_same (xor_of (pair_number x)) x.second (omega arith) i);
  number_sample = λ n h. omega arith;
}
