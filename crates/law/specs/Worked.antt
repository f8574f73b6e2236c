-- Worked lives, in sum words: the tile 1 2 / 3 4 from two whole places and a lost one between them, in the order of the queue
-- and with a grant held and given back; a tile with too few places; and one whose sums contradict one another.
use Rattle.std.specs.Prelude.{◌≡◌, ℕ, List, [], ◌∷◌, map, ℤ, pos, negsuc, Some}
use Rattle.samples.specs.declared.words.SumWord.{SumWord}
use Rattle.samples.specs.Kinds.{sum_words}
use Rattle.samples.specs.Words.{sum_of}
use Rattle.mojette.specs.Meaning.{Place, Meaning}
use Rattle.mojette.specs.Refusals.{ghost_left, leftover_sum}
use Rattle.peeling.specs.declared.state.State.{State}
use Rattle.law.specs.Steps.{loading, peeling, finished, Tables, done, granted, settled, refused}
use Rattle.law.specs.Life.{History, opens, loads, seals, takes, settles, gives_back, finishes, event, Life}
use Rattle.law.specs.Law.{shown}

abbrev pub place : ℤ → ℤ → ℕ → List ℕ → Place SumWord
place p q cause sums = record { entry = record { direction = record { p = p; q = q }; cause = cause }; sums = map sum_of sums }

-- the numbers in the first P·Q cells of the picture
abbrev pub cells : Meaning SumWord → Tables SumWord → List ℕ
cells m t = map (λ x. x.value) (shown sum_words m t)

-- two by two, of which the middle place is lost
abbrev pub example : Meaning SumWord
example = record {
  P = 2;
  Q = 2;
  places =
      place (pos 1) (pos 1) 0 (2 ∷ 5 ∷ 3 ∷ []) ∷ place (pos 0) (pos 1) 4 [] ∷ place (negsuc 0) (pos 1) 0 (4 ∷ 5 ∷ 1 ∷ []) ∷ [];
}

-- Some life of a tile of this source ends with the picture 1 2 / 3 4.
pub record Ends : Type 0 where
  pub calls : History
  pub tables : Tables SumWord
  pub life : Life sum_words example calls finished tables
  pub shows : cells example tables ≡ 1 ∷ 2 ∷ 3 ∷ 4 ∷ []

-- The calls of two workers, the newest first: one holds bin 0 and gives it back; the other takes bin 2 meanwhile, and settles it.
abbrev pub two_workers : History
two_workers =
    event finishes done
    ∷ event (settles 0) (settled (Some 1) 0)
    ∷ event takes (granted 0)
    ∷ event (settles 7) (settled (Some 0) 1)
    ∷ event takes (granted 7)
    ∷ event (settles 5) (settled (Some 3) 2)
    ∷ event takes (granted 5)
    ∷ event (settles 2) (settled (Some 2) 3)
    ∷ event (gives_back 0) done
    ∷ event takes (granted 2)
    ∷ event takes (granted 0)
    ∷ event seals done
    ∷ event loads done
    ∷ event loads done
    ∷ event loads done
    ∷ event opens done
    ∷ []

-- A life with these calls ends with the same picture.
pub record GivesBack : Type 0 where
  pub tables : Tables SumWord
  pub life : Life sum_words example two_workers finished tables
  pub shows : cells example tables ≡ 1 ∷ 2 ∷ 3 ∷ 4 ∷ []

-- One whole place is not enough for a tile of 2 by 2.
abbrev pub diagonal : Meaning SumWord
diagonal = record { P = 2; Q = 2; places = place (negsuc 0) (pos 1) 0 (4 ∷ 5 ∷ 1 ∷ []) ∷ [] }

-- In some life of a tile of this source seal refuses, with C and R 1, and shows the ghost 0 1 / FFFF 0.
pub record IsRefused : Type 0 where
  pub calls : History
  pub tables : Tables SumWord
  pub life : Life sum_words diagonal (event seals (refused (ghost_left 1 1)) ∷ calls) (loading 1) tables
  pub shows : cells diagonal tables ≡ 0 ∷ 1 ∷ 0xFFFF ∷ 0 ∷ []

-- Two whole places that no tile agrees with: 2 5 3 and 4 6 1.
abbrev pub contradiction : Meaning SumWord
contradiction = record {
  P = 2;
  Q = 2;
  places = place (pos 1) (pos 1) 0 (2 ∷ 5 ∷ 3 ∷ []) ∷ place (negsuc 0) (pos 1) 0 (4 ∷ 6 ∷ 1 ∷ []) ∷ [];
}

-- In some life of a tile of this source all pixels are found, and finish refuses: a sum is left over at place 1, bin 1.
pub record IsContradicted : Type 0 where
  pub calls : History
  pub state : State
  pub tables : Tables SumWord
  pub life : Life sum_words contradiction (event finishes (refused (leftover_sum 1 1)) ∷ calls) (peeling state) tables
  pub found : state.left ≡ 0

-- Worked, further: a grant given back, and a tile that is contradicted.
pub record WorkedFurther : Type 0 where
  pub gives_back : GivesBack
  pub is_contradicted : IsContradicted

pub record Worked : Type 0 where
  pub ends : Ends
  pub is_refused : IsRefused
