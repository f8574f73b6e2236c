-- What is printed, in the words of tiles: which tile, which ghost, or why none.
use Rattle.std.specs.Prelude.{◌≡◌, ℕ, ◌<◌, ◌≤◌, true, false, List, Some, length}
use Rattle.samples.specs.contracts.codes.PairSumWordXorWordCoded.TheImpl.{ghosts as pair_codes}
use Rattle.samples.specs.contracts.codes.SumWordCoded.TheImpl.{ghosts as sum_codes}
use Rattle.samples.specs.contracts.codes.XorWordCoded.TheImpl.{ghosts as xor_codes}
use Rattle.samples.specs.contracts.impls.SumWordKind.TheImpl.{ghosts as sum_operations}
use Rattle.samples.specs.contracts.impls.XorWordKind.TheImpl.{ghosts as xor_operations}
use Rattle.samples.specs.declared.coded.Coded.{Ghosts as Codes}
use Rattle.samples.specs.declared.kind.Kind.{Ghosts as Operations}
use Rattle.mojette.specs.Meaning.{Meaning, Agrees, Ghost, shape_of, bins_of}
use Rattle.mojette.specs.Refusals.{leftover_sum, unreadable_text, oversize}
use Rattle.format.specs.Format.{read_file, file, refused}
use Rattle.format.specs.Kinds.{pair_operations}
use Rattle.format.specs.Listing.{picture_text, ghost_text, refusal_text}
use Rattle.law.specs.Steps.{criterion}
use Rattle.bracket.specs.declared.kind_name.KindName.TheVariants.{Sum, Xor, Pair}
use Rattle.bracket.specs.Kinds.{kind_named, Unread}
use Rattle.answers.specs.Tiles.{most_bytes, program_bins}

module _ {S : Type 0} (K : Operations S) (C : Codes S) where
  -- What is printed of a lawful source: that its tile is too large; a ghost of its whole places, where they are too few; that no tile agrees with it, with the
  -- place and the bin that the worker's finish tells; or the picture of the one tile that agrees.
  pub data Shows (m : Meaning S) : List ℕ → Type 0 where
    too_large : program_bins < bins_of (shape_of m) → Shows m (refusal_text oversize)
    ghosted : (g : List S) → bins_of (shape_of m) ≤ program_bins → criterion (shape_of m) ≡ false → Ghost K m g → Shows m (ghost_text K C (shape_of m) g)
    contradicted : (i b : ℕ) → bins_of (shape_of m) ≤ program_bins → criterion (shape_of m) ≡ true → ((tile : List S) → Agrees K m tile → ⊥) →
        Shows m (refusal_text (leftover_sum i b))
    rebuilt : (tile : List S) → bins_of (shape_of m) ≤ program_bins → criterion (shape_of m) ≡ true → Agrees K m tile →
        ((other : List S) → Agrees K m other → other ≡ tile) → Shows m (picture_text K C (shape_of m) tile)

  -- What is printed of a text, by the reader of one kind.
  pub data Prints (t : List ℕ) : List ℕ → Type 0 where
    no_file : (line byte why : ℕ) → read_file C t ≡ refused line byte why → Prints t (refusal_text (unreadable_text line byte why))
    of_file : {out : List ℕ} (m : Meaning S) → read_file C t ≡ file m → Shows m out → Prints t out

-- What is printed of an input: that it is too long; where it is no file; or what the reader of the kind that it names prints.
pub data Answers (t : List ℕ) : List ℕ → Type 0 where
  too_long : most_bytes < length t → Answers t (refusal_text oversize)
  unread : length t ≤ most_bytes → (u : Unread t) → Answers t (refusal_text (unreadable_text u.line u.byte u.why))
  of_sums : {out : List ℕ} → length t ≤ most_bytes → kind_named t ≡ Some Sum → Prints sum_operations sum_codes t out → Answers t out
  of_xors : {out : List ℕ} → length t ≤ most_bytes → kind_named t ≡ Some Xor → Prints xor_operations xor_codes t out → Answers t out
  of_pairs : {out : List ℕ} → length t ≤ most_bytes → kind_named t ≡ Some Pair → Prints pair_operations pair_codes t out → Answers t out
