use Rattle.std.proofs.Common.{◌≡◌, ◌-◌, ◌≤◌, length, take, drop, sym, ap, ◌∙◌, subst, arith}
use Rattle.std.proofs.KnownBytes.{Appends-trans, Appends-kept}
use Rattle.std.proofs.lemmas.List.{length-drop, take_all}
use Rattle.std.proofs.Math.Seq.{take-add}
use Rattle.std.specs.Io.KnownBytes.{Appends}
use Rattle.rebuild.proofs.streams.write_whole.Goals as goal
use Rattle.rebuild.proofs.streams.write_whole.Goals.{in-Ok, in-Err+else-ne}

pub loop-preserved : goal.loop-preserved
loop-preserved g c =
    let bytes = c.args.bytes.now in
    let rest = drop c.loop.written bytes in
    let first = g.W.Write.contents c.args.writer.now in
    let last = g.W.Write.contents c.write.new.self in
    elim c.match-write.branch [
      | in-Ok w ↦
          let size = length-drop c.loop.written bytes in
          let all : take (length bytes - c.loop.written) rest ≡ rest = take_all (length bytes - c.loop.written) rest (omega (arith, size)) in
          let few = subst (λ xs. w.in-Ok.count ≤ length xs) all w.in-Ok.ensures.bound in
          let more = subst (λ xs. Appends (g.W.Write.contents c.loop.writer) last (take w.in-Ok.count xs)) all w.in-Ok.ensures.bytes in (
            omega (arith, w.written-is, few, size, c.loop.invariant.0),
            subst (Appends first last) (sym (ap (λ n. take n bytes) w.written-is ∙ take-add c.loop.written w.in-Ok.count bytes))
                (Appends-trans _ _ _ _ _ c.loop.invariant.1 more),
          )
      | in-Err+else-ne w ↦ (
        omega (arith, w.written-is, c.loop.invariant.0),
        subst (λ n. Appends first last (take n bytes)) (sym w.written-is) (Appends-kept _ _ _ _ c.loop.invariant.1 w.in-Err.ensures.bytes),
      )
    ]
