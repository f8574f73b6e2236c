-- Counting lines.
use Rattle.std.proofs.Common.{◌≡◌, ℕ, suc, ◌+◌, Bool, true, false, cond, List, count_by, ◌==◌, refl, arith}
use Rattle.std.proofs.lemmas.List.Recursion.{is_count_by}
use Rattle.format.specs.Format.{line_ends}

pub lines_counted : (t : List ℕ) → line_ends t ≡ count_by (λ b. b == 10) t
lines_counted = is_count_by line_ends (λ b. b == 10) refl (λ b bs. go (b == 10) (line_ends bs))
  where
    go : (m : Bool) (n : ℕ) → cond m (suc n) n ≡ cond m (1 + n) n
    go true n = omega arith
    go false n = refl
