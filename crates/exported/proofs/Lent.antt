-- The caller's own tables, when the loans of a call have ended.
use Rattle.std.proofs.Common.{◌≡◌, ℕ, List}
use Rattle.tile.specs.declared.lent.Tables.{Tables as Lent}
use Rattle.tile.specs.Outcomes.{tables}
use Rattle.tile.specs.Worlds.{contents}

-- They are what was lent holds in the end.
pub as_left : {S : Type 0} {picture : List S} {marks : List ℕ} {sums : List S} {counts queue : List ℕ} (t : Lent S) → picture ≡ t.picture.now → marks ≡ t.marks.now →
    sums ≡ t.sums.now → counts ≡ t.counts.now → queue ≡ t.queue.now → tables picture marks sums counts queue ≡ contents t
as_left t e f g h k = λ j. tables (e j) (f j) (g j) (h j) (k j)
