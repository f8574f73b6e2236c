-- What `show_ghost` leaves and answers.
use Rattle.std.specs.Prelude.{cond, List, ◌++◌, length, take, drop, nat_lt}
use Rattle.samples.specs.declared.kind.Kind.{Ghosts as Operations}
use Rattle.mojette.specs.Faults.{Outcome, served, refuses}
use Rattle.mojette.specs.Meaning.{Shape, pixels_of}
use Rattle.mojette.specs.Refusals.{short_table}
use Rattle.katz.specs.Ghosts.{Ghost}
use Rattle.katz.specs.Made.{ghost_tile}
use Rattle.plan.specs.declared.criterion.Criterion.{Criterion}
use Rattle.plan.specs.Criteria.{whole_of, criterion_of}

-- the answer of a call and the picture that it leaves
pub record Shown (S : Type 0) : Type 0 where
  pub answer : Outcome Criterion
  pub picture : List S

abbrev pub shown : {S : Type 0} → Outcome Criterion → List S → Shown S
shown a picture = record { answer = a; picture = picture }

-- the ghost in the first P·Q cells, the others as they were
abbrev pub ghosted : {S : Type 0} → Operations S → Shape → List S → List S
ghosted K s picture = ghost_tile K s.P s.Q (whole_of s) ++ drop (pixels_of s) picture

-- The criterion, and where it fails the ghost. Or the refusal, with the picture as it was: a picture too short.
abbrev pub showing : {S : Type 0} → Operations S → Shape → List S → Shown S
showing K s picture =
    cond (nat_lt (length picture) (pixels_of s)) (shown (refuses (short_table 1)) picture)
    (cond (criterion_of s).enough (shown (served (criterion_of s)) picture)
    (shown (served (criterion_of s)) (ghosted K s picture)))

-- The first P·Q cells are a ghost: not zero, and vanishing in every bin of every whole place.
abbrev pub HoldsGhost : {S : Type 0} → Operations S → Shape → List S → Type 0
HoldsGhost K s picture = Ghost K s.P s.Q (whole_of s) (take (pixels_of s) picture)
