use Rattle.mojette.specs.Bins.{start}
use Rattle.plan.specs.Laid.{records_of}
use Rattle.plan.specs.Shapes.{shape, places_of}
use Rattle.notes.proofs.Tables.{NotedBelow}
use Rattle.notes.proofs.noting.note_places.Given as goal

abbrev pub invariant-loop-place : goal.invariant-loop-place
invariant-loop-place l = NotedBelow (shape l.plan) (start l.plan.size.columns l.plan.size.rows (records_of (places_of l.plan)) l.place-index) l.notes
