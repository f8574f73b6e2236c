use Rattle.std.proofs.Common.{◌≡◌, ℕ, ◌*◌, ◌≤◌, [], take, drop}
use Rattle.std.specs.Slice.Iter.{chunks_exact_rest, chunks_exact_size}
use Rattle.format.specs.Listing.{rows_text}
use Rattle.writing.specs.Writers.{Writes}
use Rattle.writing.proofs.writer.Writer.put_rows.Given as goal

abbrev pub invariant-loop-row : goal.invariant-loop-row
invariant-loop-row g l =
    (goal.iterator-loop-row g).can_next l.row-iterator
    × (goal.iterator-loop-row g).is_finite l.row-iterator
    × (chunks_exact_size l.row-iterator ≡ l.fn.size.columns)
    × ((n : ℕ) × ((n ≤ l.fn.size.rows) × (chunks_exact_rest l.row-iterator ≡ drop (n * l.fn.size.columns) (take (l.fn.size.columns * l.fn.size.rows) l.picture))
    × Writes (rows_text g.K.Kind g.K.Coded l.fn.size.columns l.picture 0 n []) l.initial.self l.self))
