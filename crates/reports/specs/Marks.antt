-- The part of a text round a token, and the mark under it.
use Rattle.std.specs.Prelude.{ℕ, ◌-◌, cond, not, ◌&&◌, List, [], ◌∷◌, ◌++◌, map, length, take, drop, min, max, replicate, ◌==◌, nat_le}
use Rattle.std.specs.List.{prefix_len, suffix_len}
use Rattle.samples.specs.Names.{mark}

-- the most bytes that are shown of a line before a token, and from it on
abbrev pub most_before : ℕ
most_before = 40

abbrev pub most_after : ℕ
most_after = 38

-- a byte as it is shown: `?` for one that is no printable ASCII
abbrev pub shown : ℕ → ℕ
shown b = cond (nat_le 32 b && nat_le b 126) b 63

-- how many bytes are shown before the token, of the line that it stands in
abbrev pub column_of : List ℕ → ℕ
column_of before = min (min (suffix_len (λ b. not (b == 10)) before) most_before) (length before)

-- how many are shown from the token on
abbrev pub left_of : List ℕ → ℕ
left_of rest = min (min (prefix_len (λ b. not (b == 10)) rest) most_after) (length rest)

-- how wide the mark is: as the token, as far as it is shown, and one column at least
abbrev pub width_of : List ℕ → ℕ
width_of rest = max (min (prefix_len (λ b. not (mark b)) rest) most_after) 1

-- the line as it is shown, and the line with the mark under the token
abbrev pub mark_text : List ℕ → List ℕ → List ℕ
mark_text before rest =
    map shown (drop (length before - column_of before) before) ++ map shown (take (left_of rest) rest) ++ 10 ∷ []
    ++ replicate (column_of before) 32 ++ replicate (width_of rest) 94 ++ 10 ∷ []

-- the same for the token that begins at a byte of a text
abbrev pub marked_text : List ℕ → ℕ → List ℕ
marked_text t byte = mark_text (take byte t) (drop byte t)
