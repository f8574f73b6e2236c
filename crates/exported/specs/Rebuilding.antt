-- What rebuilding the tile of a rack answers, and what it leaves.
use Rattle.std.specs.Prelude.{◌≡◌, ℕ, List, drop}
use Rattle.samples.specs.declared.words.SumWord.{SumWord}
use Rattle.samples.specs.contracts.impls.SumWordKind.TheImpl.{ghosts as sum_operations}
use Rattle.mojette.specs.declared.direction.Record.{Record}
use Rattle.mojette.specs.Faults.{Outcome, served, refuses}
use Rattle.mojette.specs.Meaning.{Meaning}
use Rattle.law.specs.Steps.{Tables}
use Rattle.source.specs.Racks.{racking}
use Rattle.runs.specs.Rebuilding as runs
use Rattle.runs.specs.Worker.{one_worker}

-- the answer of a rebuild, a number of pixels or a refusal
abbrev pub pixels : runs.Answer → Outcome ℕ
pixels (runs.served n) = served n
pixels (runs.refuses r) = refuses r

-- One worker's run on the tile of the rack that was made; where none was made, its refusal, and the tables as they were.
abbrev pub works : Outcome (Meaning SumWord) → Tables SumWord → runs.Answer × Tables SumWord
works (served m) t = one_worker sum_operations m t
works (refuses r) t = (runs.refuses r, t)

-- what rebuilding answers, and what the tables hold then
abbrev pub rebuilding : ℕ → ℕ → List Record → List SumWord → Tables SumWord → runs.Answer × Tables SumWord
rebuilding P Q records run t = works (racking P Q records run) t

-- The tile of the rack that was made is rebuilt: the first thing that is wrong is told, or else the picture is the one tile that agrees.
abbrev pub RebuildsRack : Outcome (Meaning SumWord) → Tables SumWord → runs.Answer → Tables SumWord → Type 0
RebuildsRack (served m) before answer after = runs.Rebuilds sum_operations m before answer after
RebuildsRack (refuses r) before answer after = (answer ≡ runs.refuses r) × (after ≡ before)

-- Behind the cells of a tile with so many pixels and bins each table is as it was.
pub record SameBeyond {S : Type 0} (pixels bins : ℕ) (before after : Tables S) : Type 0 where
  pub picture : drop pixels after.picture ≡ drop pixels before.picture
  pub marks : drop pixels after.marks ≡ drop pixels before.marks
  pub sums : drop bins after.sums ≡ drop bins before.sums
  pub counts : drop bins after.counts ≡ drop bins before.counts
  pub queue : drop bins after.queue ≡ drop bins before.queue
