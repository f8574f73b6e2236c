-- The operations of pairs of a sum word and an XOR word.
use Rattle.samples.specs.declared.kind.Kind.{Ghosts as Operations}
use Rattle.samples.specs.declared.words.Pair.{Pair}
use Rattle.samples.specs.declared.words.SumWord.{SumWord}
use Rattle.samples.specs.declared.words.XorWord.{XorWord}
use Rattle.samples.specs.Pairs.{pair_plus, pair_inverse, pair_of, pair_equal, pair_laws}
use Rattle.samples.specs.Words.{sum_plus, sum_inverse, sum_zero, sum_spark, sum_equal, sum_laws, xor_plus, xor_inverse, xor_zero, xor_spark, xor_equal, xor_laws}

abbrev pub pair_operations : Operations (Pair SumWord XorWord)
pair_operations = record {
  plus = pair_plus sum_plus xor_plus;
  inverse = pair_inverse sum_inverse xor_inverse;
  zero = pair_of sum_zero xor_zero;
  spark = pair_of sum_spark xor_spark;
  equal = pair_equal sum_equal xor_equal;
  laws = pair_laws sum_laws xor_laws;
}
