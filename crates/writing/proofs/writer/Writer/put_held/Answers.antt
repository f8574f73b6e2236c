use Rattle.std.proofs.Common.{◌≡◌, [], ◌∷◌, ◌++◌, length, codes as text, decimal, sym, ap, ◌∙◌, arith, length-append}
use Rattle.samples.specs.Reading.{code}
use Rattle.source.specs.Questions.{place_at}
use Rattle.format.specs.Texts.{bin_sums}
use Rattle.writing.specs.Lines.{spaced}
use Rattle.writing.specs.Writers.{Writes}
use Rattle.writing.proofs.OfPlaces.{held_whole, held_lost}
use Rattle.writing.proofs.OfSplices.{writes_more, writes_same}
use Rattle.writing.proofs.writer.Writer.put_held.Goals as goal
use Rattle.writing.proofs.writer.Writer.put_held.Goals.{then-place-eq0, else-place-eq0}

pub put_bins-requires-clause-room : goal.put_bins-requires-clause-room
put_bins-requires-clause-room g c =
    let m = g.S.Source.meaning c.args.source.now in
    let x = place_at m c.args.i in
    let codes = spaced (code g.K.Coded) (bin_sums g.K.Kind m.P m.Q x) in
    let e = ap length (held_whole g.K.Kind g.K.Coded m.P m.Q x (ap (λ e. e.cause) (sym c.requires.place.entry) ∙ c.if-place-eq0.true)) in
    omega (arith, c.requires.room, e, length-append (text " (bins" ++ codes) (41 ∷ (41 ∷ (10 ∷ []))))

pub put-requires-2 : goal.put-requires-2
put-requires-2 g c =
    let m = g.S.Source.meaning c.args.source.now in
    let x = place_at m c.args.i in
    let cause : c.args.place.now.cause ≡ x.entry.cause = ap (λ e. e.cause) c.requires.place.entry in
    elim c.if-place-eq0.branch [
      | then-place-eq0 w ↦
          let codes = spaced (code g.K.Coded) (bin_sums g.K.Kind m.P m.Q x) in
          let e = ap length (held_whole g.K.Kind g.K.Coded m.P m.Q x (sym cause ∙ w.if-place-eq0.true)) in
          let u = writes_more w.put.ensures w.put_bins.ensures in
          rw w.self-is (omega (arith, c.requires.room, e, u.filled, u.same_length, length-append (text " (bins" ++ codes) (41 ∷ (41 ∷ (10 ∷ [])))))
      | else-place-eq0 w ↦
          let why = spaced decimal (x.entry.cause ∷ []) in
          let e = ap length (held_lost g.K.Kind g.K.Coded m.P m.Q x (λ z. w.if-place-eq0.false (cause ∙ z))) in
          let same = ap (λ n. length (spaced decimal (n ∷ []))) (w.from.ensures ∙ cause) in
          let u = writes_more w.put-else-place-eq0.ensures w.put_numbers.ensures in
          rw w.self-is (omega (arith, c.requires.room, e, same, u.filled, u.same_length, length-append (text " (lost" ++ why) (41 ∷ (41 ∷ (10 ∷ [])))))
    ]

pub returns : goal.returns
returns g c =
    let m = g.S.Source.meaning c.args.source.now in
    let x = place_at m c.args.i in
    let cause : c.args.place.now.cause ≡ x.entry.cause = ap (λ e. e.cause) c.requires.place.entry in
    elim c.if-place-eq0.branch [
      | then-place-eq0 w ↦
          let u : Writes (text " (bins" ++ spaced (code g.K.Coded) (bin_sums g.K.Kind m.P m.Q x)) c.args.self.now c.if-place-eq0.self =
          rw w.self-is (writes_more w.put.ensures w.put_bins.ensures) in
          writes_same (held_whole g.K.Kind g.K.Coded m.P m.Q x (sym cause ∙ w.if-place-eq0.true)) (writes_more u c.put-2.ensures)
      | else-place-eq0 w ↦
          let u : Writes (text " (lost" ++ spaced decimal (x.entry.cause ∷ [])) c.args.self.now c.if-place-eq0.self =
          rw w.self-is (writes_same (ap (λ n. text " (lost" ++ spaced decimal (n ∷ [])) (w.from.ensures ∙ cause)) (writes_more w.put-else-place-eq0.ensures w.put_numbers.ensures)) in
          writes_same (held_lost g.K.Kind g.K.Coded m.P m.Q x (λ z. w.if-place-eq0.false (cause ∙ z))) (writes_more u c.put-2.ensures)
    ]
