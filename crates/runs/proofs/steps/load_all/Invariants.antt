use Rattle.std.proofs.Common.{◌≡◌}
use Rattle.mojette.specs.Meaning.{shape_of}
use Rattle.plan.specs.Shapes.{shape}
use Rattle.law.specs.Life.{History, Life, loaded_places}
use Rattle.law.specs.Steps.{loading}
use Rattle.law.specs.Turns.{loaded}
use Rattle.tile.specs.Worlds.{IsStillLent, contents}
use Rattle.runs.proofs.steps.load_all.Given as goal

-- From a life with no place loaded there is one with `counter` places loaded, and the tables are those after as many loads.
abbrev pub invariant-loop : goal.invariant-loop
invariant-loop g l =
    let K = g.S.Sample.Kind in
    let m = g.S.Source.meaning l.source in
    IsStillLent l.initial.tables l.tables × (shape l.plan ≡ shape_of m → (h : History) →
    Life K m h (loading l.initial.tile) (contents l.initial.tables) → loaded_places h ≡ 0 →
    (h' : History) × Life K m h' (loading l.tile) (contents l.tables) × (loaded_places h' ≡ l.counter)
    × (contents l.tables ≡ loaded K m l.counter (contents l.initial.tables)))
