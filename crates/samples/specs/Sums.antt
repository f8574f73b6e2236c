-- Sums of samples, over the operations of any kind.
use Rattle.std.specs.Prelude.{ℕ, zero, suc}
use Rattle.samples.specs.declared.kind.Kind.{Ghosts as Operations}

-- f 0 + … + f (n - 1)
unfoldable pub sum_below : {S : Type 0} → Operations S → ℕ → (ℕ → S) → S
sum_below K zero f = K.zero
sum_below K (suc n) f = K.plus (sum_below K n f) (f n)
