-- Tokens of a text, each as the list of its bytes.
use Rattle.std.specs.Prelude.{ℕ, cond, List, [], ◌∷◌, length, drop}
use Rattle.samples.specs.Names.{mark}

-- the longest front of bs that holds no mark
abbrev pub run : List ℕ → List ℕ
run [] = []
run (b ∷ bs) = cond (mark b) [] (b ∷ run bs)

-- the first token of bs: a mark, a word, or the empty list for the end of input
abbrev pub token : List ℕ → List ℕ
token [] = []
token (b ∷ bs) = cond (mark b) (b ∷ []) (b ∷ run bs)

-- what follows the first token
abbrev pub after : List ℕ → List ℕ
after bs = drop (length (token bs)) bs
