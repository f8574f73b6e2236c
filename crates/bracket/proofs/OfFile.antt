-- A whole file by its first line and the lines after it.
use Rattle.std.proofs.Common.{◌≡◌, ℕ, ◌+◌, List, map, length, take, drop, None, Ok, Err, Result, sym, ap, ◌∙◌}
use Rattle.samples.specs.declared.coded.Coded.{Ghosts as Codes}
use Rattle.samples.specs.declared.kind.Kind.{Ghosts as Operations}
use Rattle.mojette.specs.declared.size.Size.{Size}
use Rattle.mojette.specs.Bounds.{most_places}
use Rattle.mojette.specs.Faults.{reason_number}
use Rattle.mojette.specs.Meaning.{Place, Meaning}
use Rattle.format.specs.Format.{head_reader, places_reader, file_reader, line_ends, told, read_file, refused}
use Rattle.format.specs.Readers.{done, Reader, then}
use Rattle.bracket.specs.declared.fault_in_text.FaultInText.{FaultInText}
use Rattle.bracket.specs.declared.lexer.Lexer.{Lexer}
use Rattle.bracket.specs.declared.line.Lines.{Lines}
use Rattle.bracket.specs.Lexing.{left, fault_of, parsed_as, ReadsAs}
use Rattle.bracket.specs.Lines.{held_lines, place_from}
use Rattle.bracket.specs.Means.{meaning_from, file_fault, file_read}

module _ {S : Type 0} (K : Operations S) (C : Codes S) (l : Lexer) where
  -- what the call that reads a whole file answers
  abbrev FileRead : (Size × Lines → Meaning S) → Result (Size × Lines) FaultInText → Lexer → Type 0
  FileRead value r m = ReadsAs value (λ n. file_reader C n) l r m

  -- what follows the first line
  abbrev after_head : ℕ → ℕ × ℕ → Reader (Meaning S)
  after_head n v s = then (places_reader C n v.0 v.1 None most_places s) (λ xs. done (record { P = v.0; Q = v.1; places = xs }))

  -- what the call that reads the first line answers
  abbrev pub HeadRead : Result Size FaultInText → Lexer → Type 0
  HeadRead r m = ReadsAs (λ z. (z.columns, z.rows)) (head_reader C.name) l r m

  module _ (k : Lexer) (z : Size) (head : HeadRead (Ok z) k) where
    abbrev P : ℕ
    P = z.columns

    abbrev Q : ℕ
    Q = z.rows

    -- what the call that reads the lines after the first answers
    abbrev LinesRead : (Lines → List (Place S)) → Result Lines FaultInText → Lexer → Type 0
    LinesRead value r m = ReadsAs value (λ n. places_reader C n P Q None most_places) k r m

    opened : file_reader C (length l.text.now) (left l) ≡ after_head (length k.text.now) (P, Q) (left k)
    opened =
        ap (λ x. then x (after_head (length l.text.now))) head.gives
        ∙ ap (λ t. after_head (length t) (P, Q) (left k)) (sym head.same)

    pub stops_at_lines :
        (value : Size × Lines → Meaning S) (lines : Lines → List (Place S)) (m : Lexer) (e : FaultInText) → LinesRead lines (Err e) m
        → FileRead value (Err e) m
    stops_at_lines value lines m e r = record {
      gives = opened ∙ ap (λ x. then x (λ xs. done (record { P = P; Q = Q; places = xs }))) r.gives;
      in_text = r.in_text ∙ head.same;
      same = r.same ∙ head.same;
    }

    pub all_read :
        (m : Lexer) (lines : Lines) → LinesRead (λ x. map (place_from K C k.text.now z) (held_lines x)) (Ok lines) m
        → FileRead (λ v. meaning_from K C l.text.now v.0 (held_lines v.1)) (Ok (z, lines)) m
    all_read m lines r = record {
      gives =
          opened ∙ ap (λ x. then x (λ xs. done (record { P = P; Q = Q; places = xs }))) r.gives
          ∙ ap (λ t. done (meaning_from K C t z (held_lines lines)) (left m)) head.same;
      in_text = tt;
      same = r.same ∙ head.same;
    }

-- A whole file that was read from the start of a text.
module _ {S : Type 0} (K : Operations S) (C : Codes S) (l m : Lexer) (t : List ℕ) (same : l.text.now ≡ t) (start : l.at ≡ 0) where
  abbrev Whole : Result (Size × Lines) FaultInText → Type 0
  Whole r = ReadsAs (λ v. meaning_from K C l.text.now v.0 (held_lines v.1)) (λ n. file_reader C n) l r m

  abbrev meant : Size × Lines → Meaning S
  meant v = meaning_from K C t v.0 (held_lines v.1)

  whole : (r : Result (Size × Lines) FaultInText) → Whole r → told t (parsed_as meant (fault_of r) (left m)) ≡ read_file C t
  whole r h =
      ap (told t) ((λ i. parsed_as (λ v. meaning_from K C (sym same i) v.0 (held_lines v.1)) (fault_of r) (left m)) ∙ sym h.gives)
      ∙ (λ i. told t (file_reader C (length (same i)) (drop (start i) (same i))))

  pub file_told : (v : Size × Lines) → Whole (Ok v) → file_read meant (Ok v) ≡ read_file C t
  file_told v h = whole (Ok v) h

  pub fault_told : (e : FaultInText) → Whole (Err e) → file_read meant (Err (file_fault e)) ≡ read_file C t
  fault_told e h =
      ap (λ u. refused (1 + line_ends (take e.fault.byte u)) e.fault.byte (reason_number e.fault.reason)) (h.in_text ∙ same) ∙ whole (Err e) h
