use Rattle.std.proofs.Common.{ℕ, ◌+◌, ◌*◌, List}
use Rattle.plan.proofs.Taking.{StepOf, DownTo}
use Rattle.plan.proofs.ghosts.take_off.Given as goal

abbrev pub invariant-loop-l : goal.invariant-loop-l
invariant-loop-l g l =
    (f : ℕ → g.row.K.Denot) → StepOf g.K.Kind l.size.columns l.size.rows l.q l.first l.last l.back l.initial.picture f
    → DownTo g.K.Kind l.size.columns l.size.rows f l.initial.picture (l.l * l.size.columns) l.picture

abbrev pub invariant-loop-k : goal.invariant-loop-k
invariant-loop-k g l =
    (f : ℕ → g.row.K.Denot) (old : List g.row.K.Denot) → StepOf g.K.Kind l.size.columns l.size.rows l.q l.first l.last l.back old f
    → DownTo g.K.Kind l.size.columns l.size.rows f old (l.l * l.size.columns + l.last) l.initial.picture
    → DownTo g.K.Kind l.size.columns l.size.rows f old (l.l * l.size.columns + l.k) l.picture
