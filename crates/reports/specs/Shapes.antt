-- The shape of the source that a text is the file of.
use Rattle.std.specs.Prelude.{ℕ, List, Some, None, Ok, Err, Option, Result}
use Rattle.samples.specs.contracts.codes.PairSumWordXorWordCoded.TheImpl.{ghosts as pair_codes}
use Rattle.samples.specs.contracts.codes.SumWordCoded.TheImpl.{ghosts as sum_codes}
use Rattle.samples.specs.contracts.codes.XorWordCoded.TheImpl.{ghosts as xor_codes}
use Rattle.mojette.specs.declared.fault.Fault.{Fault}
use Rattle.mojette.specs.Faults.{Outcome, served, refuses, refusal_of}
use Rattle.mojette.specs.Meaning.{Shape, shape_of, verdict}
use Rattle.mojette.specs.Refusals.{unreadable_text}
use Rattle.plan.specs.declared.plan.Plan.{Plan}
use Rattle.plan.specs.Shapes.{shape}
use Rattle.source.specs.Questions.{checked}
use Rattle.format.specs.Format.{Read, file, refused, read_file}
use Rattle.bracket.specs.declared.kind_name.KindName.{KindName}
use Rattle.bracket.specs.declared.kind_name.KindName.TheVariants.{Sum, Xor, Pair}
use Rattle.bracket.specs.Kinds.{kind_named}

-- what a call that makes a plan answered: its shape, or a refusal
abbrev pub shaped : Result Plan Fault → Outcome Shape
shaped (Ok plan) = served (shape plan)
shaped (Err e) = refuses (refusal_of e)

-- the shape of what was read, or the line, the byte and the reason
abbrev pub asked_shape : {S : Type 0} → Read S → Outcome Shape
asked_shape (file m) = checked (verdict (shape_of m)) (served (shape_of m))
asked_shape (refused line byte why) = refuses (unreadable_text line byte why)

abbrev pub shape_as : Option KindName → List ℕ → Outcome Shape
shape_as (Some Xor) t = asked_shape (read_file xor_codes t)
shape_as (Some Pair) t = asked_shape (read_file pair_codes t)
shape_as (Some Sum) t = asked_shape (read_file sum_codes t)
shape_as None t = asked_shape (read_file sum_codes t)

-- by the kind that the text names
abbrev pub shape_told : List ℕ → Outcome Shape
shape_told t = shape_as (kind_named t) t
