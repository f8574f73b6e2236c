-- What `project` leaves and answers.
use Rattle.std.specs.Prelude.{ℕ, ◌*◌, cond, not, ◌&&◌, List, ◌++◌, length, drop, Some, None, Option, nat_lt}
use Rattle.samples.specs.declared.kind.Kind.{Ghosts as Operations}
use Rattle.mojette.specs.declared.direction.Direction.{Direction}
use Rattle.mojette.specs.Directions.{lawful}
use Rattle.mojette.specs.Bins.{bins}
use Rattle.mojette.specs.Faults.{Outcome, served, refuses}
use Rattle.mojette.specs.Meaning.{side_ok}
use Rattle.mojette.specs.Refusals.{Refusal, unlawful_size, unlawful_direction, short_table}
use Rattle.mojette.specs.Transform.{projection}

-- the answer of a call and the sums that it leaves
pub record Projected (S : Type 0) : Type 0 where
  pub answer : Outcome ℕ
  pub sums : List S

abbrev pub projected : {S : Type 0} → Outcome ℕ → List S → Projected S
projected a sums = record { answer = a; sums = sums }

-- The sums of a direction in the first B cells, the others as they were; the answer is B. Or the first refusal, with the sums
-- as they were: the sizes, the direction (as place 0), a picture too short, sums too short.
abbrev pub projecting : {S : Type 0} → Operations S → ℕ → ℕ → Direction → List S → List S → Projected S
projecting K P Q d picture sums =
    cond (not (side_ok P && side_ok Q)) (projected (refuses unlawful_size) sums)
    (cond (not (lawful d)) (projected (refuses (unlawful_direction 0)) sums)
    (cond (nat_lt (length picture) (P * Q)) (projected (refuses (short_table 1)) sums)
    (cond (nat_lt (length sums) (bins P Q d)) (projected (refuses (short_table 3)) sums)
    (projected (served (bins P Q d)) (projection K P Q picture d ++ drop (bins P Q d) sums)))))

-- The first refusal, none where the call is served: the sizes, the direction (as place 0), a picture of too few cells, too
-- few cells for the sums.
abbrev pub project_refusal : ℕ → ℕ → Direction → ℕ → ℕ → Option Refusal
project_refusal P Q d cells room =
    cond (not (side_ok P && side_ok Q)) (Some unlawful_size)
    (cond (not (lawful d)) (Some (unlawful_direction 0))
    (cond (nat_lt cells (P * Q)) (Some (short_table 1))
    (cond (nat_lt room (bins P Q d)) (Some (short_table 3)) None)))
