-- What reading a written file gives.
use Rattle.std.specs.Prelude.{◌≡◌, ℕ, List}
use Rattle.samples.specs.declared.coded.Coded.{Ghosts as Codes}
use Rattle.samples.specs.declared.kind.Kind.{Ghosts as Operations}
use Rattle.mojette.specs.Meaning.{Meaning}
use Rattle.source.specs.Questions.{asked_sizes, asked_place, asked_bin}
use Rattle.format.specs.Format.{read_file, file}

-- The text is a file, and what it means answers each of the three questions as m does.
pub record AnswersAs {S : Type 0} (K : Operations S) (C : Codes S) (m : Meaning S) (t : List ℕ) : Type 0 where
  pub read : Meaning S
  pub is_file : read_file C t ≡ file read
  pub sizes : asked_sizes read ≡ asked_sizes m
  pub place : (i : ℕ) → asked_place read i ≡ asked_place m i
  pub bin : (i b : ℕ) → asked_bin K read i b ≡ asked_bin K m i b
