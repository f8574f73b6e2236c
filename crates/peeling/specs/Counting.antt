-- Numbers over the indexes below a bound.
use Rattle.std.specs.Prelude.{ℕ, zero, suc, ◌+◌, Bool, true, false, cond, nat_lt}

abbrev pub one_if : Bool → ℕ
one_if true = 1
one_if false = 0

-- f 0 + f 1 + .. + f (n - 1)
unfoldable pub tally : ℕ → (ℕ → ℕ) → ℕ
tally zero f = 0
tally (suc n) f = tally n f + f n

-- how many indexes below n pass the test p
unfoldable pub number : ℕ → (ℕ → Bool) → ℕ
number n p = tally n (λ i. one_if (p i))

-- the least index below n that passes the test p; n where none does
unfoldable pub least : ℕ → (ℕ → Bool) → ℕ
least zero p = 0
least (suc n) p = cond (nat_lt (least n p) n) (least n p) (cond (p n) n (suc n))
