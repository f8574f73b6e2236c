use Rattle.std.proofs.Common.{◌≡◌, [], ◌++◌, length, codes as text, ap, ◌∙◌, arith}
use Rattle.format.specs.Texts.{head_text, end_text}
use Rattle.writing.specs.Files.{place_lines}
use Rattle.writing.proofs.OfFiles.{file_pieces, length-file}
use Rattle.writing.proofs.OfSplices.{writes_more, writes_same}
use Rattle.writing.proofs.writer.Writer.put_file.Goals as goal

pub put_places-requires-clause-room : goal.put_places-requires-clause-room
put_places-requires-clause-room g c =
    let m = g.S.Source.meaning c.args.source.now in
    let l = length-file g.K.Kind g.K.Coded m in
    let h : length (head_text (text "tile") c.kind_name.result.now c.size.result.columns c.size.result.rows []) ≡ length (head_text (text "tile") g.K.Coded.name m.P m.Q []) =
    λ i. length (head_text (text "tile") (c.kind_name.ensures i) ((c.size.ensures.columns ∙ ap (λ s. s.P) c.requires.same) i) ((c.size.ensures.rows ∙ ap (λ s. s.Q) c.requires.same) i) []) in
    omega (arith, c.requires.room)

pub put-requires : goal.put-requires
put-requires g c =
    let m = g.S.Source.meaning c.args.source.now in
    let l = length-file g.K.Kind g.K.Coded m in
    let h : length (head_text (text "tile") c.kind_name.result.now c.size.result.columns c.size.result.rows []) ≡ length (head_text (text "tile") g.K.Coded.name m.P m.Q []) =
    λ i. length (head_text (text "tile") (c.kind_name.ensures i) ((c.size.ensures.columns ∙ ap (λ s. s.P) c.requires.same) i) ((c.size.ensures.rows ∙ ap (λ s. s.Q) c.requires.same) i) []) in
    omega (arith, c.requires.room)

pub returns : goal.returns
returns g c =
    let m = g.S.Source.meaning c.args.source.now in
    writes_same
    (ap (λ h. h ++ place_lines g.K.Kind g.K.Coded m.P m.Q m.places ++ end_text)
    (λ i. head_text (text "tile") (c.kind_name.ensures i) ((c.size.ensures.columns ∙ ap (λ s. s.P) c.requires.same) i) ((c.size.ensures.rows ∙ ap (λ s. s.Q) c.requires.same) i) [])
    ∙ file_pieces g.K.Kind g.K.Coded m)
    (writes_more (writes_more c.put_head.ensures c.put_places.ensures) c.put.ensures)
