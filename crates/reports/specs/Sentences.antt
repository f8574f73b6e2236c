-- Each fault in words, where the places that were asked about are known.
use Rattle.std.specs.Prelude.{ℕ, List, ◌++◌, decimal, codes as text, Some, None, Option, slice_get}
use Rattle.std.specs.Option.{option_map}
use Rattle.mojette.specs.declared.direction.Direction.{Direction}
use Rattle.mojette.specs.declared.direction.Record.{Record}
use Rattle.mojette.specs.declared.fault.Fault.{Fault}
use Rattle.mojette.specs.declared.fault.Fault.TheVariants.{Unlawful}
use Rattle.mojette.specs.Sentences.{direction_words, sentence}

-- the direction of place i, if it is among those that are known
abbrev pub direction_at : List Record → ℕ → Option Direction
direction_at es i = option_map (λ e. e.direction) (slice_get es i)

-- place i is not lawful: with its direction, where that is known
abbrev pub unlawful_words : ℕ → Option Direction → List ℕ
unlawful_words i (Some d) = text "place " ++ decimal i ++ (text ": the direction " ++ direction_words d ++ text " is not lawful")
unlawful_words i None = sentence (Unlawful i)

-- the sentence of a fault, with the direction that is not lawful where that is known
abbrev pub sentence_among : List Record → Fault → List ℕ
sentence_among es (Unlawful i) = unlawful_words i (direction_at es i)
sentence_among es e = sentence e
