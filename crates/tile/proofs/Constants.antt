-- Cells that are filled with one value.
use Rattle.std.proofs.Common.{◌≡◌, ℕ, ◌≤◌, List, [], ◌∷◌, ◌++◌, length, drop, replicate, refl, ap, ◌∙◌, ap₂}
use Rattle.std.specs.List.{FoldsTo}
use Rattle.std.proofs.lemmas.List.{get_or-replicate, length-replicate}
use Rattle.std.proofs.lemmas.List.FromFn.{fill_by_all}
use Rattle.peeling.specs.Steps.{filled}
use Rattle.tile.proofs.Showing.{filled_first}

-- what calls answer that all answer v, as long as `keeps` holds
pub constant : {P A : Type 0} (R : P → A → P → Type 0) (keeps : P → Type 0) (v : A) → ((p : P) (x : A) (q : P) → keeps p → R p x q → (x ≡ v) × keeps q) →
    (p : P) (xs : List A) (q : P) → keeps p → FoldsTo R p xs q → xs ≡ replicate (length xs) v
constant R keeps v step p [] q h f = refl
constant R keeps v step p (x ∷ xs) q h f =
    let s = step p x f.0 h f.1 in
    ap₂ (λ y ys. y ∷ ys) s.0 (constant R keeps v step f.0 xs q s.1 f.2)

pub filled_with : {X : Type 0} (n : ℕ) (v : X) (xs ys : List X) → n ≤ length xs → ys ≡ replicate (length ys) v → length ys ≡ n → ys ++ drop n xs ≡ filled n (λ _. v) xs
filled_with n v xs ys l same size =
    let all : ys ≡ replicate n v = same ∙ ap (λ k. replicate k v) size in
    ap (λ zs. zs ++ drop n xs) (all ∙ fill_by_all (λ _. v) (replicate n v) n v (length-replicate n v) (λ k h. get_or-replicate n k v v h)) ∙ filled_first (λ _. v) xs n l
