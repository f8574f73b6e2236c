-- From what reading a text answers to what is printed of it.
use Rattle.std.proofs.Common.{◌≡◌, ℕ, ◌<◌, ◌≤◌, List, length, Some, None, sym, refl, ap, ◌∙◌, subst, ltb}
use Rattle.std.proofs.lemmas.Bool.{cond-true, cond-false, le-ltb, lt-ltb}
use Rattle.samples.specs.contracts.codes.PairSumWordXorWordCoded.TheImpl.{ghosts as pair_codes}
use Rattle.samples.specs.contracts.codes.XorWordCoded.TheImpl.{ghosts as xor_codes}
use Rattle.samples.specs.contracts.codes.SumWordCoded.TheImpl.{ghosts as sum_codes}
use Rattle.samples.specs.contracts.impls.SumWordKind.TheImpl.{ghosts as sum_operations}
use Rattle.samples.specs.contracts.impls.XorWordKind.TheImpl.{ghosts as xor_operations}
use Rattle.format.specs.Kinds.{pair_operations}
use Rattle.bracket.specs.declared.kind_name.KindName.TheVariants.{Sum, Xor, Pair}
use Rattle.samples.specs.declared.coded.Coded.{Ghosts as Codes}
use Rattle.samples.specs.declared.kind.Kind.{Ghosts as Operations}
use Rattle.mojette.specs.Faults.{served, refuses}
use Rattle.mojette.specs.Meaning.{Meaning, Lawful, shape_of}
use Rattle.mojette.specs.Refusals.{Refusal, refusal}
use Rattle.format.specs.Format.{Read, file, refused, read_file}
use Rattle.format.specs.Listing.{refusal_text}
use Rattle.format.proofs.Reading.{writes_back}
use Rattle.bracket.specs.Files.{asked_file}
use Rattle.bracket.specs.Kinds.{kind_named, Unread}
use Rattle.answers.specs.Tiles.{most_bytes}
use Rattle.answers.specs.Answers.{read_answer, text_answer, tile_answer, program_answer, answer_as}
use Rattle.answers.specs.Law.{Shows, Prints, no_file, of_file, Answers, too_long, unread, of_sums, of_xors, of_pairs}

-- what was answered for a text tells how it reads
file_read : {S : Type 0} (r : Read S) (m : Meaning S) → served m ≡ asked_file r → r ≡ file m
file_read (file n) m e = let same : n ≡ m = cc in ap file same
file_read (refused line byte why) m e = absurd cc

none_read : {S : Type 0} (r : Read S) (q : Refusal) → refuses q ≡ asked_file r → (line : ℕ) × (byte : ℕ) × (why : ℕ) × (r ≡ refused line byte why) × (q ≡ refusal 20 line byte why)
none_read (file n) q e = absurd cc
none_read (refused line byte why) q e = let same : q ≡ refusal 20 line byte why = cc in (line, byte, why, refl, same)

module _ {S : Type 0} (K : Operations S) (C : Codes S) (t : List ℕ) where
  module _ (m : Meaning S) (e : served m ≡ asked_file (read_file C t)) where
    pub reads : read_file C t ≡ file m
    reads = file_read (read_file C t) m e

    pub lawful : Lawful (shape_of m)
    lawful = (writes_back K C t m reads).lawful

    pub file_answer : tile_answer K C m ≡ text_answer K C t
    file_answer = ap (read_answer K C) (sym reads)

    pub file_prints : (Lawful (shape_of m) → Shows K C m (tile_answer K C m)) → Prints K C t (text_answer K C t)
    file_prints shows = subst (Prints K C t) file_answer (of_file m reads (shows lawful))

  module _ (q : Refusal) (e : refuses q ≡ asked_file (read_file C t)) where
    pub none_answer : refusal_text q ≡ text_answer K C t
    none_answer = let w = none_read (read_file C t) q e in ap refusal_text w.4 ∙ ap (read_answer K C) (sym w.3)

    pub none_prints : Prints K C t (text_answer K C t)
    none_prints = let w = none_read (read_file C t) q e in
        subst (Prints K C t) (ap (read_answer K C) (sym w.3)) (no_file w.0 w.1 w.2 w.3)

module _ (t : List ℕ) where
  pub long_answers : most_bytes < length t → Answers t (program_answer t)
  long_answers l = subst (Answers t) (sym (cond-true (ltb most_bytes (length t)) _ _ (lt-ltb most_bytes (length t) l))) (too_long l)

  module _ (l : length t ≤ most_bytes) where
    short_answer : answer_as (kind_named t) t ≡ program_answer t
    short_answer = sym (cond-false (ltb most_bytes (length t)) _ _ (le-ltb most_bytes (length t) l))

    pub of_kind : (out : List ℕ) → answer_as (kind_named t) t ≡ out → Answers t out → Answers t (program_answer t)
    of_kind out e a = subst (Answers t) (sym e ∙ short_answer) a

    pub unread_answers : kind_named t ≡ None → Unread t → Answers t (program_answer t)
    unread_answers none u =
        of_kind (refusal_text (refusal 20 u.line u.byte u.why)) (ap (λ k. answer_as k t) none ∙ ap (read_answer sum_operations sum_codes) u.as_sums) (unread l u)

    pub sums_answers : kind_named t ≡ Some Sum → Prints sum_operations sum_codes t (text_answer sum_operations sum_codes t) → Answers t (program_answer t)
    sums_answers kind prints = of_kind (text_answer sum_operations sum_codes t) (ap (λ k. answer_as k t) kind) (of_sums l kind prints)

    pub xors_answers : kind_named t ≡ Some Xor → Prints xor_operations xor_codes t (text_answer xor_operations xor_codes t) → Answers t (program_answer t)
    xors_answers kind prints = of_kind (text_answer xor_operations xor_codes t) (ap (λ k. answer_as k t) kind) (of_xors l kind prints)

    pub pairs_answers : kind_named t ≡ Some Pair → Prints pair_operations pair_codes t (text_answer pair_operations pair_codes t) → Answers t (program_answer t)
    pairs_answers kind prints = of_kind (text_answer pair_operations pair_codes t) (ap (λ k. answer_as k t) kind) (of_pairs l kind prints)
