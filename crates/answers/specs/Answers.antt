-- What the program prints for an input.
use Rattle.std.specs.Prelude.{ℕ, cond, List, length, Some, None, Option, ◌==◌, nat_lt}
use Rattle.samples.specs.contracts.codes.PairSumWordXorWordCoded.TheImpl.{ghosts as pair_codes}
use Rattle.samples.specs.contracts.codes.SumWordCoded.TheImpl.{ghosts as sum_codes}
use Rattle.samples.specs.contracts.codes.XorWordCoded.TheImpl.{ghosts as xor_codes}
use Rattle.samples.specs.contracts.impls.SumWordKind.TheImpl.{ghosts as sum_operations}
use Rattle.samples.specs.contracts.impls.XorWordKind.TheImpl.{ghosts as xor_operations}
use Rattle.samples.specs.declared.coded.Coded.{Ghosts as Codes}
use Rattle.samples.specs.declared.kind.Kind.{Ghosts as Operations}
use Rattle.mojette.specs.Meaning.{Meaning, shape_of, verdict, bins_of}
use Rattle.mojette.specs.Refusals.{Refusal, unreadable_text, oversize}
use Rattle.format.specs.Format.{Read, file, refused, read_file}
use Rattle.format.specs.Kinds.{pair_operations}
use Rattle.format.specs.Listing.{picture_text, ghost_text, refusal_text}
use Rattle.law.specs.Law.{shown}
use Rattle.law.specs.Steps.{Tables}
use Rattle.runs.specs.Rebuilding.{Answer, served, refuses}
use Rattle.bracket.specs.declared.kind_name.KindName.{KindName}
use Rattle.bracket.specs.declared.kind_name.KindName.TheVariants.{Sum, Xor, Pair}
use Rattle.bracket.specs.Kinds.{kind_named}
use Rattle.answers.specs.Tiles.{most_bytes, program_bins, answered}

module _ {S : Type 0} (K : Operations S) (C : Codes S) where
  module _ (m : Meaning S) where
    -- the listing of what rebuilding a tile of the source answered, and of what it left: the picture, the ghost, or the refusal
    abbrev pub listing_of : Answer → Tables S → List ℕ
    listing_of (served n) t = picture_text K C (shape_of m) (shown K m t)
    listing_of (refuses r) t = cond (r.number == 9) (ghost_text K C (shape_of m) (shown K m t)) (refusal_text r)

    abbrev pub listed : Answer × Tables S → List ℕ
    listed a = listing_of a.0 a.1

    -- the listing of what one worker answers and leaves on clear tables
    abbrev pub worker_listing : List ℕ
    worker_listing = listed (answered K m)

    -- by the refusal of the source's shape, if there is one
    abbrev pub judged : Option Refusal → List ℕ
    judged (Some r) = refusal_text r
    judged None = cond (nat_lt program_bins (bins_of (shape_of m))) (refusal_text oversize) worker_listing

    -- what is printed of a tile: one worker rebuilds it on clear tables
    unfoldable pub tile_answer : List ℕ
    tile_answer = judged (verdict (shape_of m))

  abbrev pub read_answer : Read S → List ℕ
  read_answer (file m) = tile_answer m
  read_answer (refused line byte why) = refusal_text (unreadable_text line byte why)

  -- what is printed of a text, by the reader of one kind
  abbrev pub text_answer : List ℕ → List ℕ
  text_answer t = read_answer (read_file C t)

-- by the kind that the text names; a text that names none is told why by any reader
abbrev pub answer_as : Option KindName → List ℕ → List ℕ
answer_as (Some Xor) t = text_answer xor_operations xor_codes t
answer_as (Some Pair) t = text_answer pair_operations pair_codes t
answer_as (Some Sum) t = text_answer sum_operations sum_codes t
answer_as None t = text_answer sum_operations sum_codes t

-- what the program prints for an input
abbrev pub program_answer : List ℕ → List ℕ
program_answer t = cond (nat_lt most_bytes (length t)) (refusal_text oversize) (answer_as (kind_named t) t)
