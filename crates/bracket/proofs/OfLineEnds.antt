-- Counting lines.
use Rattle.std.proofs.Common.{◌≡◌, ℕ, ◌+◌, List, take, length, min, count_by, ◌==◌, ap, sym, ◌∙◌}
use Rattle.std.proofs.lemmas.List.{take_min}
use Rattle.format.specs.Format.{line_ends}
use Rattle.format.proofs.LineEnds.{lines_counted}

-- the line ends before a byte, in the text as far as it goes
pub lines_before : (t : List ℕ) (byte cut n : ℕ) → cut ≡ min byte (length t) → n ≡ count_by (λ b. b == 10) (take cut t) → 1 + n ≡ 1 + line_ends (take byte t)
lines_before t byte cut n c e =
    ap (λ m. 1 + m) (e ∙ sym (lines_counted (take cut t)) ∙ ap (λ k. line_ends (take k t)) c ∙ ap line_ends (take_min byte t))
