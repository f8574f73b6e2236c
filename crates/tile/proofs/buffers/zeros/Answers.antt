use Rattle.std.proofs.Common.{◌≡◌, replicate, [], ◌∷◌, ◌++◌, ap, ◌∙◌, arith}
use Rattle.std.proofs.lemmas.List.{replicate-append-replicate}
use Rattle.tile.proofs.buffers.zeros.Goals as goal

pub loop-preserved : goal.loop-preserved
loop-preserved g c =
    c.in_ok-push.ensures.items ∙ (λ j. c.loop.invariant j ++ c.zero_sample.ensures j ∷ []) ∙ replicate-append-replicate c.loop.counter 1 g.K.Kind.zero

pub returns : goal.returns
returns g c =
    let all : c.loop.counter ≡ c.args.cells = omega (arith, c.loop-test.false, c.loop.auto.counter-end) in
    c.loop.invariant ∙ ap (λ n. replicate n g.K.Kind.zero) all
