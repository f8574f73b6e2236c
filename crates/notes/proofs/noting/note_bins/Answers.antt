use Rattle.std.proofs.Common.{arith}
use Rattle.notes.proofs.Most.{few}
use Rattle.notes.proofs.noting.note_bins.Goals as goal

pub note_places-requires-clause-room : goal.note_places-requires-clause-room
note_places-requires-clause-room c = omega (arith, few c.args.plan.now, c.told-notes)
