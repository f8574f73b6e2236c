-- One worker's turns: so many loads, and so many takes with a settle of what each grants. Each call is its step.
use Rattle.std.specs.Prelude.{ℕ, zero, suc}
use Rattle.samples.specs.declared.kind.Kind.{Ghosts as Operations}
use Rattle.mojette.specs.Meaning.{Shape, Meaning, shape_of, bins_of}
use Rattle.peeling.specs.declared.state.State.{State}
use Rattle.peeling.specs.Steps.{World}
use Rattle.law.specs.Steps.{Stage, peeling, Tables, Answer, done, granted, Outcome, peels_on, world_of, tables_of, blank, load, seal, take, settle}

-- the state of a tile that is peeled; another state in any other stage
abbrev pub state_of : Stage → State → State
state_of (peeling s) other = s
state_of stage other = other

module _ {S : Type 0} (K : Operations S) (shape : Shape) where
  -- after a call, from a world on
  abbrev pub moved : Outcome S → World S → World S
  moved o w = world_of (state_of o.stage w.state) o.tables

  -- the position that a take granted is settled
  abbrev pub spend : Answer → World S → World S
  spend (granted b) w = moved (settle K shape b w.state (tables_of w)) w
  spend a w = w

  -- One turn: a take, and a settle of what it grants. A take that is refused changes nothing.
  unfoldable pub turn : World S → World S
  turn w = spend (take K shape w.state (tables_of w)).answer (moved (take K shape w.state (tables_of w)) w)

  abbrev pub turns : ℕ → World S → World S
  turns zero w = w
  turns (suc n) w = turn (turns n w)

  -- What a seal answers, and leaves; where it is served, as many turns are made as there are bins, since no more are needed.
  abbrev pub peeled_out : Answer → Outcome S → Outcome S
  peeled_out done o = peels_on (turns (bins_of shape) (world_of (state_of o.stage blank) o.tables)) done
  peeled_out a o = o

  unfoldable pub seal_and_peel : ℕ → Tables S → Outcome S
  seal_and_peel n t = peeled_out (seal K shape n t).answer (seal K shape n t)

-- the tables after n loads
abbrev pub loaded : {S : Type 0} → Operations S → Meaning S → ℕ → Tables S → Tables S
loaded K m zero t = t
loaded K m (suc n) t = (load K (shape_of m) m n (loaded K m n t)).tables
