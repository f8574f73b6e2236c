-- Where the places of a plan start.
use Rattle.std.proofs.Common.{◌≡◌, ℕ, zero, suc, ◌+◌, ◌≤◌, List, [], ◌∷◌, length, refl, ap, arith}
use Rattle.mojette.specs.declared.direction.Record.{Record}
use Rattle.mojette.specs.Bins.{bins, start, all_bins}

-- behind the last place
pub start_beyond : (P Q : ℕ) (es : List Record) (i : ℕ) → length es ≤ i → start P Q es i ≡ all_bins P Q es
start_beyond P Q [] zero l = refl
start_beyond P Q [] (suc i) l = refl
start_beyond P Q (e ∷ es) zero l = absurd (omega arith)
start_beyond P Q (e ∷ es) (suc i) l = ap (λ n. bins P Q e.direction + n) (start_beyond P Q es i (omega arith))

-- no place starts behind it
pub start_most : (P Q : ℕ) (es : List Record) (i : ℕ) → start P Q es i ≤ all_bins P Q es
start_most P Q [] zero = omega arith
start_most P Q [] (suc i) = omega arith
start_most P Q (e ∷ es) zero = omega arith
start_most P Q (e ∷ es) (suc i) = let h = start_most P Q es i in omega arith
