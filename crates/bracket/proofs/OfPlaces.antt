-- The lines after the first, one by one.
use Rattle.std.proofs.Common.{◌≡◌, ℕ, zero, suc, ◌+◌, ◌-◌, ◌<◌, ◌≤◌, Bool, true, false, ltb, List, [], ◌∷◌, ◌++◌, map, length, Some, None, Ok, Err, codes as text, Option, Result, sym, refl, ap, ◌∙◌, ⊎_elim, append_assoc, append-nil, arith}
use Rattle.std.proofs.lemmas.List.{map_push, length-append}
use Rattle.std.proofs.lemmas.Bool.{lt-ltb, le-ltb, cases_lt}
use Rattle.samples.specs.declared.coded.Coded.{Ghosts as Codes}
use Rattle.samples.specs.declared.kind.Kind.{Ghosts as Operations}
use Rattle.mojette.specs.declared.direction.Direction.{Direction}
use Rattle.mojette.specs.declared.size.Size.{Size}
use Rattle.mojette.specs.Bounds.{most_places}
use Rattle.mojette.specs.Meaning.{Place}
use Rattle.format.specs.Format.{line_word, is_first, dir_reader, end_reader, places_reader}
use Rattle.format.specs.Readers.{Parsed, done, fault, Reader, then, accept, expect}
use Rattle.format.proofs.Reading.{line_reader}
use Rattle.bracket.specs.declared.fault_in_text.FaultInText.{FaultInText}
use Rattle.bracket.specs.declared.lexer.Lexer.{Lexer}
use Rattle.bracket.specs.declared.line.Line.{Line}
use Rattle.bracket.specs.declared.line.Lines.{Lines}
use Rattle.bracket.specs.declared.line.Start.{Start}
use Rattle.bracket.specs.declared.line.Start.TheVariants.{Dir, End}
use Rattle.bracket.specs.Lexing.{left, fault_of, parsed_as, ReadsAs}
use Rattle.bracket.specs.Lines.{is_dir, start_reader, held_lines, place_from}

pub not_dir : (s : Start) → (s ≡ Dir → ⊥) → is_dir s ≡ false
not_dir Dir h = absurd (h refl)
not_dir End h = refl

then_assoc : {A B C : Type 0} (x : Parsed A) (f : A → Reader B) (g : B → Reader C) → then (then x f) g ≡ then x (λ a s. then (f a s) g)
then_assoc (done a s) f g = refl
then_assoc (fault byte why) f g = refl

-- what was read, in a text by its length
reads_as_in :
    {A B : Type 0} (value : A → B) (f : ℕ → Reader B) (l m : Lexer) (r : Result A FaultInText) (t : List ℕ) → l.text.now ≡ t
    → ReadsAs value f l r m → f (length t) (left l) ≡ parsed_as value (fault_of r) (left m)
reads_as_in value f l m r t e h = ap (λ u. f (length u) (left l)) (sym e) ∙ h.gives

-- places that were read, before those that are still to be read
abbrev before : {A : Type 0} → List A → Parsed (List A) → Parsed (List A)
before ys x = then x (λ xs. done (ys ++ xs))

one_more : {A : Type 0} (ys : List A) (y : A) (x : Parsed (List A)) → before ys (then x (λ xs. done (y ∷ xs))) ≡ before (ys ++ (y ∷ [])) x
one_more ys y (done xs s) = ap (λ l. done l s) (sym (append_assoc ys (y ∷ []) xs))
one_more ys y (fault byte why) = refl

module _ {S : Type 0} (K : Operations S) (C : Codes S) (z : Size) where
  abbrev P : ℕ
  P = z.columns

  abbrev Q : ℕ
  Q = z.rows

  -- what follows the start of a line, where there is room for so many places
  abbrev line_rest : ℕ → Option Direction → ℕ → Bool → Reader (List (Place S))
  line_rest n last zero more bs = end_reader n bs
  line_rest n last (suc room) more bs = line_reader K C n P Q last room more bs

  rest_end : (n : ℕ) (last : Option Direction) (room : ℕ) (bs : List ℕ) → line_rest n last room false bs ≡ end_reader n bs
  rest_end n last zero bs = refl
  rest_end n last (suc room) bs = refl

  started :
      (n : ℕ) (last : Option Direction) (room : ℕ) (open' : Bool) (bs : List ℕ) → open' ≡ ltb 0 room
      → places_reader C n P Q last room bs ≡ then (start_reader n last open' bs) (line_rest n last room)
  started n last zero open' bs e =
      sym (ap (λ o. then (start_reader n last o bs) (line_rest n last zero)) e ∙ then_assoc (expect n (text "(") bs) (λ _. accept n (line_word (is_first last) false)) (line_rest n last zero))
  started n last (suc room) open' bs e =
      let t : ltb 0 (suc room) ≡ true = lt-ltb 0 (suc room) (omega arith) in
      sym (ap (λ o. then (start_reader n last o bs) (line_rest n last (suc room))) (e ∙ t) ∙ then_assoc (expect n (text "(") bs) (λ _. accept n (line_word (is_first last) true)) (line_rest n last (suc room)))

  module _ (start : Lexer) where
    abbrev t : List ℕ
    t = start.text.now

    abbrev held : List Line → List (Place S)
    held lines = map (place_from K C t z) lines

    -- what the call that reads the end of the last line answers
    abbrev pub EndRead : Lexer → Result (Unit {0}) FaultInText → Lexer → Type 0
    EndRead k r m = ReadsAs (λ _. []) (λ n. end_reader {A = Place S} n) k r m

    -- what a call that reads the lines answers
    abbrev pub LinesRead : (Lines → List (Place S)) → Result Lines FaultInText → Lexer → Type 0
    LinesRead value r m = ReadsAs value (λ n. places_reader C n P Q None most_places) start r m

    -- l is what the lexer has become after so many places, and these are their lines
    pub record ReadOn (l : Lexer) (lines : List Line) (last : Option Direction) : Type 0 where
      pub gives :
          places_reader C (length t) P Q None most_places (left start)
          ≡ before (held lines) (places_reader C (length t) P Q last (most_places - length lines) (left l))
      pub same : l.text.now ≡ t
      pub few : length lines ≤ most_places

    module _ (l : Lexer) (lines : List Line) (last : Option Direction) (open' : Bool) (so_far : ReadOn l lines last) (room : open' ≡ ltb (length lines) most_places) where
      has_room : open' ≡ ltb 0 (most_places - length lines)
      has_room =
          room ∙ ⊎_elim
          (λ h. lt-ltb (length lines) most_places h ∙ sym (lt-ltb 0 (most_places - length lines) (omega arith)))
          (λ h. le-ltb (length lines) most_places h ∙ sym (le-ltb 0 (most_places - length lines) (omega arith)))
          (cases_lt (length lines) most_places)

      at_start :
          places_reader C (length t) P Q None most_places (left start)
          ≡ before (held lines) (then (start_reader (length t) last open' (left l)) (line_rest (length t) last (most_places - length lines)))
      at_start = so_far.gives ∙ ap (before (held lines)) (started (length t) last (most_places - length lines) open' (left l) has_room)

      pub stops_at_start :
          (value : Lines → List (Place S)) (m : Lexer) (e : FaultInText) → ReadsAs is_dir (λ n. start_reader n last open') l (Err e) m
          → LinesRead value (Err e) m
      stops_at_start value m e r = record {
        gives =
            at_start
            ∙ ap (λ x. before (held lines) (then x (line_rest (length t) last (most_places - length lines)))) (reads_as_in is_dir (λ n. start_reader n last open') l m (Err e) t so_far.same r);
        in_text = r.in_text ∙ so_far.same;
        same = r.same ∙ so_far.same;
      }

      module _ (k : Lexer) (begins : Start) (begun : ReadsAs is_dir (λ n. start_reader n last open') l (Ok begins) k) where
        at_rest :
            places_reader C (length t) P Q None most_places (left start)
            ≡ before (held lines) (line_rest (length t) last (most_places - length lines) (is_dir begins) (left k))
        at_rest =
            at_start
            ∙ ap (λ x. before (held lines) (then x (line_rest (length t) last (most_places - length lines)))) (reads_as_in is_dir (λ n. start_reader n last open') l k (Ok begins) t so_far.same begun)

        -- the last line
        module _ (over : is_dir begins ≡ false) where
          at_end : places_reader C (length t) P Q None most_places (left start) ≡ before (held lines) (end_reader (length t) (left k))
          at_end =
              at_rest
              ∙ ap (λ b. before (held lines) (line_rest (length t) last (most_places - length lines) b (left k))) over
              ∙ ap (before (held lines)) (rest_end (length t) last (most_places - length lines) (left k))

          pub stops_at_end :
              (value : Lines → List (Place S)) (m : Lexer) (e : FaultInText) → EndRead k (Err e) m
              → LinesRead value (Err e) m
          stops_at_end value m e r = record {
            gives = at_end ∙ ap (before (held lines)) (reads_as_in _ (λ n. end_reader n) k m (Err e) t (begun.same ∙ so_far.same) r);
            in_text = r.in_text ∙ begun.same ∙ so_far.same;
            same = r.same ∙ begun.same ∙ so_far.same;
          }

          pub ends :
              (m : Lexer) (all : Lines) → held_lines all ≡ lines → EndRead k (Ok tt) m → LinesRead (λ x. held (held_lines x)) (Ok all) m
          ends m all e r = record {
            gives =
                at_end
                ∙ ap (before (held lines)) (reads_as_in _ (λ n. end_reader n) k m (Ok tt) t (begun.same ∙ so_far.same) r)
                ∙ ap (λ ys. done ys (left m)) (append-nil (held lines) ∙ ap held (sym e));
            in_text = tt;
            same = r.same ∙ begun.same ∙ so_far.same;
          }

        -- one more place
        module _ (goes_on : is_dir begins ≡ true) (inside : length lines < most_places) where
          abbrev after_line : Place S → Reader (List (Place S))
          after_line x s = then (places_reader C (length t) P Q (Some x.entry.direction) (most_places - (length lines + 1)) s) (λ xs. done (x ∷ xs))

          at_line :
              places_reader C (length t) P Q None most_places (left start)
              ≡ before (held lines) (then (dir_reader C (length t) P Q last (left k)) after_line)
          at_line =
              let e : most_places - length lines ≡ suc (most_places - (length lines + 1)) = omega arith in
              at_rest ∙ (λ i. before (held lines) (line_rest (length t) last (e i) (goes_on i) (left k)))

          -- what the call that reads a line answers
          abbrev pub LineRead : Result Line FaultInText → Lexer → Type 0
          LineRead r m = ReadsAs (place_from K C k.text.now z) (λ n. dir_reader C n P Q last) k r m

          pub stops_at_line : (value : Lines → List (Place S)) (m : Lexer) (e : FaultInText) → LineRead (Err e) m → LinesRead value (Err e) m
          stops_at_line value m e r = record {
            gives = at_line ∙ ap (λ x. before (held lines) (then x after_line)) (reads_as_in _ (λ n. dir_reader C n P Q last) k m (Err e) t (begun.same ∙ so_far.same) r);
            in_text = r.in_text ∙ begun.same ∙ so_far.same;
            same = r.same ∙ begun.same ∙ so_far.same;
          }

          pub reads_one : (m : Lexer) (line : Line) → LineRead (Ok line) m → ReadOn m (lines ++ (line ∷ [])) (Some line.direction)
          reads_one m line r =
              let text-is = begun.same ∙ so_far.same in
              let x = place_from K C t z line in
              let long : length (lines ++ (line ∷ [])) ≡ length lines + 1 = length-append lines (line ∷ []) in
              record {
                gives =
                    at_line
                    ∙ ap (λ y. before (held lines) (then y after_line)) (reads_as_in _ (λ n. dir_reader C n P Q last) k m (Ok line) t text-is r)
                    ∙ ap (λ u. before (held lines) (after_line (place_from K C u z line) (left m))) text-is
                    ∙ one_more (held lines) x (places_reader C (length t) P Q (Some line.direction) (most_places - (length lines + 1)) (left m))
                    ∙ (λ i. before (sym (map_push (place_from K C t z) lines line) i) (places_reader C (length t) P Q (Some line.direction) (most_places - sym long i) (left m)));
                same = r.same ∙ text-is;
                few = omega arith;
              }
