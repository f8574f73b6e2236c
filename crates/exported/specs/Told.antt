-- What a call tells a program in C: a number, and a refusal.
use Rattle.std.specs.Prelude.{ℕ}
use Rattle.mojette.specs.Faults.{Outcome, served, refuses}
use Rattle.mojette.specs.Refusals.{Refusal, refusal}

-- A served call tells its number, and a refusal of zeros; a refused one tells 0, and its refusal.
abbrev pub told : Outcome ℕ → ℕ × Refusal
told (served n) = (n, refusal 0 0 0 0)
told (refuses r) = (0, r)
