-- What is printed has room: from the bounds on what is written.
use Rattle.std.proofs.Common.{◌≡◌, ℕ, ◌*◌, Bool, true, false, List, cond, length, sym, refl, ap, ◌∙◌, ltb, ◌++◌, drop, arith}
use Rattle.mojette.specs.Faults.{Outcome, served, refuses}
use Rattle.mojette.specs.Refusals.{refusal}
use Rattle.writing.specs.Splices.{filling, listing}

-- the length that a call tells, and the number of its refusal
abbrev told : Outcome ℕ → ℕ
told (served n) = n
told (refuses r) = r.first

abbrev number : Outcome ℕ → ℕ
number (served n) = 0
number (refuses r) = r.number

abbrev fills : Bool → List ℕ → List ℕ → Outcome ℕ × List ℕ
fills short t out = cond short (refuses (refusal 21 (length t) 0 0), out) (served (length t), t ++ drop (length t) out)

tells : (short : Bool) (t out : List ℕ) → told (fills short t out).0 ≡ length t
tells true t out = refl
tells false t out = refl

-- texts that fill an output alike are alike in length
pub same_length : (t u out : List ℕ) → filling t out ≡ filling u out → length t ≡ length u
same_length t u out e =
    sym (tells (ltb (length out) (length t)) t out) ∙ ap (λ x. told x.0) e ∙ tells (ltb (length out) (length u)) u out

other_number : (short : Bool) (u out : List ℕ) → 5 ≡ number (fills short u out).0 → ⊥
other_number true u out e = omega (arith, e)
other_number false u out e = omega (arith, e)

-- the same of a listing
pub listed_length : {S : Type 0} (P Q : ℕ) (picture : List S) (t u out : List ℕ) → listing P Q picture t out ≡ filling u out → length t ≡ length u
listed_length P Q picture t u out = go (ltb (length picture) (P * Q))
  where
    go : (missing : Bool) → cond missing (refuses (refusal 5 1 0 0), out) (filling t out) ≡ filling u out → length t ≡ length u
    go true e = absurd (other_number (ltb (length out) (length u)) u out (ap (λ x. number x.0) e))
    go false e = same_length t u out e
