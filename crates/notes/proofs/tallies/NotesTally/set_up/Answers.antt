use Rattle.notes.proofs.Telling.{all_told}
use Rattle.notes.proofs.tallies.NotesTally.set_up.Goals as goal

pub returns-clause-counts : goal.returns-clause-counts
returns-clause-counts c = all_told c.args.plan.now c.note_bins.new.notes c.note_bins.ensures c.args.counts.now
