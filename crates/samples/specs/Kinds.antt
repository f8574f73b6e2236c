-- The operations of sum words, for statements about them.
use Rattle.samples.specs.declared.kind.Kind.{Ghosts as Operations}
use Rattle.samples.specs.declared.words.SumWord.{SumWord}
use Rattle.samples.specs.Words.{sum_plus, sum_inverse, sum_zero, sum_spark, sum_equal, sum_laws}

abbrev pub sum_words : Operations SumWord
sum_words = record { plus = sum_plus; inverse = sum_inverse; zero = sum_zero; spark = sum_spark; equal = sum_equal; laws = sum_laws }
