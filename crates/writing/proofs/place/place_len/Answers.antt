use Rattle.std.proofs.Common.{◌≡◌, [], ◌∷◌, length, decimal, ap, ◌∙◌, arith}
use Rattle.source.specs.Questions.{place_at}
use Rattle.writing.specs.Lines.{spaced}
use Rattle.writing.proofs.OfPlaces.{whole_length, lost_length}
use Rattle.writing.proofs.place.place_len.Goals as goal
use Rattle.writing.proofs.place.place_len.Goals.{then-place-eq0, else-place-eq0}

pub returns-clause-value : goal.returns-clause-value
returns-clause-value g c = λ m i s.
    let y = c.args.place.now in
    elim c.if-place-eq0.branch [
      | then-place-eq0 w ↦
          let l = whole_length g.K.Kind g.K.Coded y c.sign.result.now c.sign.ensures.value m.P m.Q (place_at m i) s.entry w.if-place-eq0.true s.bins w.digits.result w.digits.ensures in
          rw w.held-is (omega (arith, l, c.decimal_len.ensures.value, c.numbers_len.ensures.value))
      | else-place-eq0 w ↦
          let l = lost_length g.K.Kind g.K.Coded y c.sign.result.now c.sign.ensures.value m.P m.Q (place_at m i) s.entry w.if-place-eq0.false in
          let e : w.numbers_len-held.result ≡ length (spaced decimal (y.cause ∷ [])) = w.numbers_len-held.ensures.value ∙ ap (λ n. length (spaced decimal (n ∷ []))) w.from.ensures in
          rw w.held-is (omega (arith, l, e, c.decimal_len.ensures.value, c.numbers_len.ensures.value))
    ]
