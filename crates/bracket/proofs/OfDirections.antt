-- The q of a direction, read as a number that is brought near to 0.
use Rattle.std.proofs.Common.{◌≡◌, ◌<◌, min, false, cond, leb, ◌⊎◌, ℤ, pos, negsuc, nat_abs, Some, None, Option, sym, refl, ap, ◌∙◌, inl, inr, ⊎_elim, arith}
use lib.Signed.{le_z}
use Rattle.std.proofs.lemmas.Bool.{cond-false, and_left, and_right, lt-leb, cases_lt}
use Rattle.mojette.specs.declared.direction.Direction.{Direction}
use Rattle.mojette.specs.Bounds.{most_step}
use Rattle.mojette.specs.Directions.{lawful}
use Rattle.mojette.specs.Meaning.{follows}
use Rattle.format.specs.Format.{direction_of, after_last}
use Rattle.format.specs.Readers.{good, bad}
use Rattle.bracket.specs.Capped.{capped}

-- a number that is brought near is the same, or both are far from 0
abbrev Far : Option ℤ → ℤ → Type 0
Far o z = (y : ℤ) × (o ≡ Some y) × (most_step < nat_abs y) × (most_step < nat_abs z)

brought : (o : Option ℤ) (z : ℤ) → Some z ≡ capped o → (o ≡ Some z) ⊎ Far o z
brought None z e = cc
brought (Some (pos n)) z e =
    let y : z ≡ pos (min 1000 n) = cc in
    ⊎_elim
    (λ l. let s : min 1000 n ≡ n = omega arith in inl (λ i. Some ((sym (y ∙ ap pos s)) i)))
    (λ l. inr (pos n, refl, omega arith, omega (arith, ap nat_abs y)))
    (cases_lt n 1000)
brought (Some (negsuc n)) z e =
    let y : z ≡ negsuc (min 999 n) = cc in
    ⊎_elim
    (λ l. let s : min 999 n ≡ n = omega arith in inl (λ i. Some ((sym (y ∙ ap negsuc s)) i)))
    (λ l. inr (negsuc n, refl, omega arith, omega (arith, ap nat_abs y)))
    (cases_lt n 999)

unlawful_far : (p q : ℤ) → most_step < nat_abs q → lawful (direction_of p q) ≡ false
unlawful_far p q h =
    and_right (leb (nat_abs p) most_step) _ (and_right (le_z (pos 0) q) _ (and_left (leb (nat_abs q) most_step) _ (lt-leb (nat_abs q) most_step h)))

-- What q is worth, from the number that it was brought to, and from the direction that the two numbers make.
pub q_worth :
    (last : Option Direction) (p q : ℤ) (o : Option ℤ) (d : Direction) → Some q ≡ capped o → direction_of p q ≡ d
    → after_last last p o ≡ cond (lawful d) (cond (follows last d) (good d) (bad 4)) (bad 3)
q_worth last p q o d e k =
    ⊎_elim
    (λ s. ap (after_last last p) s)
    (λ f. ap (after_last last p) f.1
    ∙ cond-false (lawful (direction_of p f.0)) _ _ (unlawful_far p f.0 f.2)
    ∙ sym (cond-false (lawful (direction_of p q)) _ _ (unlawful_far p q f.3)))
    (brought o q e)
    ∙ ap (λ x. cond (lawful x) (cond (follows last x) (good x) (bad 4)) (bad 3)) k
