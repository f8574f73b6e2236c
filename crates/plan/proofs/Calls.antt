-- What calls answer, one after another.
use Rattle.std.proofs.Common.{◌≡◌, ℕ, zero, suc, List, [], ◌∷◌, get_or, refl}
use Rattle.std.specs.List.{FoldsTo}

-- where each call answers v, all answers are v
pub all_same :
    {P A : Type 0} (R : P → A → P → Type 0) (v : A) → ((p : P) (x : A) (q : P) → R p x q → x ≡ v)
    → (p : P) (xs : List A) (q : P) → FoldsTo R p xs q → (b : ℕ) → get_or xs b v ≡ v
all_same R v step p [] q f b = refl
all_same R v step p (x ∷ xs) q f zero = step p x f.0 f.1
all_same R v step p (x ∷ xs) q f (suc b) = all_same R v step f.0 xs q f.2 b
