-- What the calls of a writer leave.
use Rattle.std.specs.Prelude.{◌≡◌, ◌≤◌, ℕ, ◌+◌, List, length}
use Rattle.writing.specs.declared.writer.Writer.{Writer}
use Rattle.writing.specs.Splices.{spliced}

-- a text fits behind what a writer's table holds
abbrev pub has_room : Writer → List ℕ → Type 0
has_room w text = w.filled + length text ≤ length w.table.now

-- A call that wrote a text into the cells behind those that held text, and left the other cells and the table itself as they were.
pub record Writes (text : List ℕ) (before after : Writer) : Type 0 where
  pub same_table : after.table.ghost_name ≡ before.table.ghost_name
  pub same_length : length after.table.now ≡ length before.table.now
  pub filled : after.filled ≡ before.filled + length text
  pub inside : after.filled ≤ length after.table.now
  pub cells : after.table.now ≡ spliced before.filled text before.table.now
