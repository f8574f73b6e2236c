use Rattle.format.specs.Format.{read_file}
use Rattle.mojette.specs.Faults.{refusal_of}
use Rattle.bracket.specs.Files.{file_meaning}
use Rattle.reports.proofs.OfShapes.{of_file, of_none}
use Rattle.reports.proofs.shapes.plan_as.Goals as goal

pub returns-in-Ok : goal.returns-in-Ok
returns-in-Ok g c = of_file (read_file g.K.Coded c.args.text.now) (file_meaning {K = g.K.Kind} c.in-Ok.file) c.in-Ok.ensures.read c.plan_of.result c.plan_of.ensures

pub returns-in-Err : goal.returns-in-Err
returns-in-Err g c = of_none (read_file g.K.Coded c.args.text.now) (refusal_of c.in-Err.fault) c.in-Err.ensures.read
