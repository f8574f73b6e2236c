-- One worker's run on a tile: every place is loaded, the tile is sealed, positions are taken and settled one by one until nothing waits, and the tile is
-- finished. Each call is its step.
use Rattle.std.specs.Prelude.{ℕ, zero, suc, length, Some, None, Option}
use Rattle.samples.specs.declared.kind.Kind.{Ghosts as Operations}
use Rattle.mojette.specs.Meaning.{Meaning, shape_of, verdict, pixels_of, bins_of}
use Rattle.mojette.specs.Refusals.{Refusal, short_table}
use Rattle.peeling.specs.Steps.{World}
use Rattle.law.specs.Steps.{Tables, refused, Outcome, world_of, tables_of, blank, short, seal, finish}
use Rattle.law.specs.Steps as step
use Rattle.law.specs.Turns.{state_of, turns, loaded}
use Rattle.runs.specs.Rebuilding.{Answer, served, refuses}

module _ {S : Type 0} (K : Operations S) (m : Meaning S) where
  -- a finish answers, on these tables
  abbrev pub ends : step.Answer → Tables S → Answer × Tables S
  ends (refused r) t = (refuses r, t)
  ends a t = (served (pixels_of (shape_of m)), t)

  abbrev pub finishing : World S → Answer × Tables S
  finishing w = ends (finish K (shape_of m) w.state (tables_of w)).answer (tables_of w)

  -- A seal answers, and leaves. There are as many turns as bins, since no more are needed.
  abbrev pub peels_from : step.Answer → Outcome S → Answer × Tables S
  peels_from (refused r) o = (refuses r, o.tables)
  peels_from a o = finishing (turns K (shape_of m) (bins_of (shape_of m)) (world_of (state_of o.stage blank) o.tables))

  abbrev pub sealing : Outcome S → Answer × Tables S
  sealing o = peels_from o.answer o

  -- where table n is the first that is too short, 0 if none is
  abbrev pub with_tables : ℕ → Tables S → Answer × Tables S
  with_tables (suc k) t = (refuses (short_table (suc k)), t)
  with_tables zero t = sealing (seal K (shape_of m) (length m.places) (loaded K m (length m.places) t))

  abbrev pub judged : Option Refusal → Tables S → Answer × Tables S
  judged (Some r) t = (refuses r, t)
  judged None t = with_tables (short (shape_of m) t) t

  -- What one worker answers, and what the tables hold then.
  unfoldable pub one_worker : Tables S → Answer × Tables S
  one_worker t = judged (verdict (shape_of m)) t
