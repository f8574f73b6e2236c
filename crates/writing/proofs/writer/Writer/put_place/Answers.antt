use Rattle.std.proofs.Common.{[], ◌++◌, codes as text, ap, ◌∙◌}
use Rattle.source.specs.Questions.{place_at}
use Rattle.format.specs.Texts.{direction_text}
use Rattle.writing.specs.Files.{held_end}
use Rattle.writing.proofs.OfPlaces.{line_pieces}
use Rattle.writing.proofs.OfSplices.{writes_more, writes_same}
use Rattle.writing.proofs.writer.Writer.put_place.Goals as goal

pub returns : goal.returns
returns g c =
    let m = g.S.Source.meaning c.args.source.now in
    let x = place_at m c.args.i in
    writes_same
    (ap (λ e. text "(dir" ++ direction_text e.direction [] ++ held_end g.K.Kind g.K.Coded m.P m.Q x) c.requires.place.entry ∙ line_pieces g.K.Kind g.K.Coded m.P m.Q x)
    (writes_more (writes_more c.put.ensures c.put_direction.ensures) c.put_held.ensures)
