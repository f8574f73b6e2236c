-- What is read has a lawful layout.
use Rattle.std.proofs.Common.{◌≡◌, ℕ, false, List, [], ◌∷◌, map, is_some, sym, refl, ap, ◌∙◌}
use Rattle.samples.specs.declared.coded.Coded.{Ghosts as Codes}
use Rattle.samples.specs.declared.kind.Kind.{Ghosts as Operations}
use Rattle.mojette.specs.declared.size.Size.{Size}
use Rattle.mojette.specs.Meaning.{verdict}
use Rattle.format.specs.Format.{file, read_file}
use Rattle.format.proofs.Reading.{writes_back}
use Rattle.bracket.specs.declared.line.Line.{Line}
use Rattle.bracket.specs.Lines.{record_of, place_from}
use Rattle.bracket.specs.Means.{meaning_from, shape_from}

module _ {S : Type 0} (K : Operations S) (C : Codes S) (t : List ℕ) (z : Size) where
  records : (lines : List Line) → map (λ x. x.entry) (map (place_from K C t z) lines) ≡ map record_of lines
  records [] = refl
  records (x ∷ xs) = ap (λ es. record_of x ∷ es) (records xs)

  pub lawful_layout : (lines : List Line) → read_file C t ≡ file (meaning_from K C t z lines) → is_some (verdict (shape_from z lines)) ≡ false
  lawful_layout lines h =
      (λ i. is_some (verdict (record { P = z.columns; Q = z.rows; records = sym (records lines) i })))
      ∙ ap is_some (writes_back K C t (meaning_from K C t z lines) h).lawful
