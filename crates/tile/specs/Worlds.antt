-- What code that is lent the tables says of them.
use Rattle.std.specs.Prelude.{◌≡◌, ℕ, zero, suc, cond, length, Some, None, Option, nat_le}
use Rattle.mojette.specs.Meaning.{Shape, bins_of}
use Rattle.mojette.specs.Refusals.{Refusal, short_table, wrong_grant}
use Rattle.law.specs.Steps.{Tables}
use Rattle.notes.specs.declared.tally.Tally.{Ghosts as Telling}
use Rattle.tile.specs.declared.lent.Tables.{Tables as Lent}

-- what lent tables hold
abbrev pub contents : {S : Type 0} → Lent S → Tables S
contents t = record { picture = t.picture.now; marks = t.marks.now; sums = t.sums.now; counts = t.counts.now; queue = t.queue.now }

-- the same, with the counts that a tally stands for
abbrev pub told : {S X : Type 0} → Telling X → Shape → X → Lent S → Tables S
told T shape x t = record { picture = t.picture.now; marks = t.marks.now; sums = t.sums.now; counts = T.counts_by shape x t.counts.now; queue = t.queue.now }

-- Each table is still the caller's own, and as long as it was.
pub record IsStillLent {S : Type 0} (t t' : Lent S) : Type 0 where
  pub picture : t'.picture.ghost_name ≡ t.picture.ghost_name
  pub marks : t'.marks.ghost_name ≡ t.marks.ghost_name
  pub sums : t'.sums.ghost_name ≡ t.sums.ghost_name
  pub counts : t'.counts.ghost_name ≡ t.counts.ghost_name
  pub queue : t'.queue.ghost_name ≡ t.queue.ghost_name
  pub picture_size : length t'.picture.now ≡ length t.picture.now
  pub marks_size : length t'.marks.now ≡ length t.marks.now
  pub sums_size : length t'.sums.now ≡ length t.sums.now
  pub counts_size : length t'.counts.now ≡ length t.counts.now
  pub queue_size : length t'.queue.now ≡ length t.queue.now

-- the refusal where table n is the first that is too short; none for 0
abbrev pub short_refusal : ℕ → Option Refusal
short_refusal zero = None
short_refusal (suc k) = Some (short_table (suc k))

-- the same, and then the refusal of a position that the plan does not have
abbrev pub refusal_at : Shape → ℕ → ℕ → Option Refusal
refusal_at shape at zero = cond (nat_le (bins_of shape) at) (Some wrong_grant) None
refusal_at shape at (suc k) = short_refusal (suc k)
