use Rattle.format.proofs.Reading.{writes_back}
use Rattle.format.proofs.Written.{reads_back}
use Rattle.format.proofs.Wrong.{tells_wrong}
use Rattle.format.proofs.one_text.Goals as goal

pub returns : goal.returns
returns g c = record { reads_back = reads_back g.K.Kind g.K.Coded g.K.Coded.naming.word; writes_back = writes_back g.K.Kind g.K.Coded; tells_wrong = tells_wrong g.K.Coded }
