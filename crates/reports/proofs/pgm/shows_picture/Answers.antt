use Rattle.reports.proofs.OfPgm.{shows_picture}
use Rattle.reports.proofs.pgm.shows_picture.Goals as goal

pub returns : goal.returns
returns c = shows_picture
