use Rattle.std.proofs.Common.{replicate, ap}
use Rattle.answers.proofs.answer.answer_xors.Goals as goal

pub answer_as-requires : goal.answer_as-requires
answer_as-requires c = record { picture = ap (replicate 4096) c.zero_sample-zero.ensures; sums = ap (replicate 8192) c.zero_sample-zero.ensures }
