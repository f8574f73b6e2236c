use Rattle.std.proofs.Common.{◌≡◌, ℕ, ◌<◌, ◌+◌, ◌*◌, ◌^◌, ◌≤◌, [], length, take, codes as text}
use Rattle.mojette.specs.Meaning.{Meaning, shape_of}
use Rattle.plan.specs.Laid.{place_at as laid_at}
use Rattle.plan.specs.Shapes.{shape, places_of}
use Rattle.format.specs.Format.{most_cause}
use Rattle.format.specs.Texts.{head_text}
use Rattle.writing.specs.Files.{place_lines}
use Rattle.writing.proofs.place.file_len.Given as goal

abbrev pub invariant-loop-place : goal.invariant-loop-place
invariant-loop-place g l =
    ((m : Meaning g.row.K.Denot) → shape l.plan ≡ shape_of m
    → l.len ≡ length (head_text (text "tile") g.K.Coded.name m.P m.Q []) + length (place_lines g.K.Kind g.K.Coded m.P m.Q (take l.place-index m.places)) + 6)
    × (l.len ≤ 1000 + l.place-index * 2 ^ 20)
    × ((k : ℕ) → k < l.place-index → (laid_at (places_of l.plan) k).cause ≤ most_cause)
