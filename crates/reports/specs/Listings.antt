-- The refusal that a listing tells.
use Rattle.std.specs.Prelude.{◌≡◌, ℕ, ◌-◌, ◌^◌, ◌<◌, cond, List, take_while, min, codes as text, Some, None, Option, ◌==◌, nat_eq}
use Rattle.std.specs.Char.{is_ascii_digit}
use Rattle.std.specs.List.{after_first, starts_with}
use Rattle.mojette.specs.Refusals.{Refusal, refusal}
use Rattle.format.specs.Listing.{refusal_text}
use Rattle.format.specs.Numbers.{read_on}

-- a number, at most as large as the program's numbers are
abbrev pub capped : ℕ → ℕ
capped n = min (2 ^ 64 - 1) n

-- what stands behind the first space
abbrev pub after_space : List ℕ → List ℕ
after_space t = after_first (λ b. b == 32) t

-- the number that a text begins with
abbrev pub front_number : List ℕ → ℕ
front_number t = capped (read_on 0 (take_while is_ascii_digit t))

-- the four numbers behind the first four spaces
abbrev pub numbers_read : List ℕ → Refusal
numbers_read t =
    refusal (front_number (after_space t)) (front_number (after_space (after_space t))) (front_number (after_space (after_space (after_space t))))
    (front_number (after_space (after_space (after_space (after_space t)))))

abbrev pub refusal_read : List ℕ → Option Refusal
refusal_read t = cond (starts_with nat_eq t (text "(refused ")) (Some (numbers_read t)) None

-- The numbers of a refusal are such as the program's numbers are.
pub record Fits (r : Refusal) : Type 0 where
  pub number : r.number < 2 ^ 64
  pub first : r.first < 2 ^ 64
  pub second : r.second < 2 ^ 64
  pub third : r.third < 2 ^ 64

-- The listing of a refusal tells that refusal.
abbrev pub ReadsRefusals : Type 0
ReadsRefusals = (r : Refusal) → Fits r → refusal_read (refusal_text r) ≡ Some r
