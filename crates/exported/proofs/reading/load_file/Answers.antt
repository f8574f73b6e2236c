use Rattle.std.proofs.Common.{◌≡◌, Some, None, sym, ◌∙◌}
use Rattle.mojette.specs.Meaning.{Lawful, shape_of}
use Rattle.mojette.specs.Refusals.{Refusal}
use Rattle.bracket.specs.Files.{file_meaning}
use Rattle.exported.proofs.reading.load_file.Goals as goal

-- no shape is both lawful and refused
never : {r : Refusal} → None ≡ Some r → ⊥
never {r} e = cc

pub returns-in_err-tile-clause-answer : goal.returns-in_err-tile-clause-answer
returns-in_err-tile-clause-answer c =
    let lawful : Lawful (shape_of (file_meaning c.in_ok-file.file)) = (c.in_ok-file.ensures.law.writes_back c.in_ok-file.file.text.now (file_meaning c.in_ok-file.file) c.in_ok-file.file.read).lawful in
    absurd (never (sym lawful ∙ c.in_err-tile.ensures.0))

pub returns-in_err-tile-clause-sums : goal.returns-in_err-tile-clause-sums
returns-in_err-tile-clause-sums c =
    let lawful : Lawful (shape_of (file_meaning c.in_ok-file.file)) = (c.in_ok-file.ensures.law.writes_back c.in_ok-file.file.text.now (file_meaning c.in_ok-file.file) c.in_ok-file.file.read).lawful in
    absurd (never (sym lawful ∙ c.in_err-tile.ensures.0))
