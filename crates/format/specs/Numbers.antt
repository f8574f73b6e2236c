-- Numerals in base ten, with no needless zero or sign.
use Rattle.std.specs.Prelude.{ℕ, zero, suc, ◌+◌, ◌-◌, ◌*◌, Bool, false, cond, not, ◌&&◌, List, [], ◌∷◌, ℤ, pos, negsuc, Some, None, Option, ◌==◌}
use Rattle.std.specs.Str.{all_ascii_digits}

-- the number that digits write, after those of n
abbrev pub read_on : ℕ → List ℕ → ℕ
read_on n [] = n
read_on n (c ∷ cs) = read_on (10 * n + (c - 48)) cs

-- one digit or more, with no needless zero
abbrev pub plain : List ℕ → Bool
plain [] = false
plain (c ∷ []) = all_ascii_digits (c ∷ [])
plain (c ∷ d ∷ ds) = not (c == 48) && all_ascii_digits (c ∷ d ∷ ds)

-- minus n, for which a sign is needed
abbrev pub minus : ℕ → Option ℤ
minus zero = None
minus (suc n) = Some (negsuc n)

-- the number that a word writes, if it is a numeral
abbrev pub numeral : List ℕ → Option ℤ
numeral [] = None
numeral (c ∷ cs) =
    cond (c == 45)
    (cond (plain cs) (minus (read_on 0 cs)) None)
    (cond (plain (c ∷ cs)) (Some (pos (read_on 0 (c ∷ cs)))) None)
