-- What a call of the code leaves and answers, in the words of the steps. The states are seen as what they hold: `Loading`, `Finished` and `Grant` as a
-- number, `Peeling` as the state of the peeling.
use Rattle.std.specs.Prelude.{ℕ, cond, List, length, take as first, Ok, Err, Option, Result, nat_lt}
use Rattle.std.specs.Borrow.{Bor}
use Rattle.mojette.specs.declared.fault.Fault.{Fault}
use Rattle.mojette.specs.declared.fault.Fault.TheVariants.{Ghost}
use Rattle.mojette.specs.Faults.{refusal_of}
use Rattle.mojette.specs.Faults as answers
use Rattle.mojette.specs.Refusals.{short_table}
use Rattle.law.specs.Steps.{loading, peeling, finished, Tables, done, granted, settled, Outcome, served, refuse}
use Rattle.tile.specs.declared.states.Finished.{Finished}
use Rattle.tile.specs.declared.states.Grant.{Grant}
use Rattle.tile.specs.declared.states.Loading.{Loading}
use Rattle.tile.specs.declared.states.Peeling.{Peeling}
use Rattle.tile.specs.declared.states.Refused.{Refused}

-- Katz's criterion fails, and the picture shows a ghost.
abbrev pub IsGhost : Fault → Type 0
IsGhost (Ghost columns rows) = Unit {0}
IsGhost _ = ⊥

module _ {S : Type 0} where
  abbrev pub tables : List S → List ℕ → List S → List ℕ → List ℕ → Tables S
  tables picture marks sums counts queue = record { picture = picture; marks = marks; sums = sums; counts = counts; queue = queue }

  abbrev pub load_outcome : Result Loading (Refused Loading) → Tables S → Outcome S
  load_outcome (Ok x) t = served (loading x) t done
  load_outcome (Err e) t = refuse (loading e.back) t (refusal_of e.fault)

  abbrev pub seal_outcome : Result Peeling (Refused Loading) → Tables S → Outcome S
  seal_outcome (Ok x) t = served (peeling x) t done
  seal_outcome (Err e) t = refuse (loading e.back) t (refusal_of e.fault)

  abbrev pub take_outcome : Result (Peeling × Grant) (Refused Peeling) → Tables S → Outcome S
  take_outcome (Ok a) t = served (peeling a.0) t (granted a.1)
  take_outcome (Err e) t = refuse (peeling e.back) t (refusal_of e.fault)

  abbrev pub settle_outcome : Result (Peeling × (Option ℕ × ℕ)) (Refused (Peeling × Grant)) → Tables S → Outcome S
  settle_outcome (Ok a) t = served (peeling a.0) t (settled a.1.0 a.1.1)
  settle_outcome (Err e) t = refuse (peeling e.back.0) t (refusal_of e.fault)

  abbrev pub give_back_outcome : Result Peeling (Refused (Peeling × Grant)) → Tables S → Outcome S
  give_back_outcome (Ok x) t = served (peeling x) t done
  give_back_outcome (Err e) t = refuse (peeling e.back.0) t (refusal_of e.fault)

  abbrev pub finish_outcome : Result Finished (Refused Peeling) → Tables S → Outcome S
  finish_outcome (Ok x) t = served finished t done
  finish_outcome (Err e) t = refuse (peeling e.back) t (refusal_of e.fault)

-- The picture call hands out the first n cells of the picture, and writes nothing.
abbrev pub pictured : {S : Type 0} → ℕ → List S → answers.Outcome (List S)
pictured n cells = cond (nat_lt (length cells) n) (answers.refuses (short_table 1)) (answers.served (first n cells))

abbrev pub picture_outcome : {S : Type 0} → Result (Bor (List S)) Fault → answers.Outcome (List S)
picture_outcome (Ok part) = answers.served part.now
picture_outcome (Err e) = answers.refuses (refusal_of e)
