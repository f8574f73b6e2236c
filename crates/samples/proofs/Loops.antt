-- One more digit of a code that is read, or written.
use Rattle.std.proofs.Common.{◌≡◌, ℕ, zero, suc, ◌+◌, ◌-◌, ◌*◌, ◌/◌, ◌%◌, ◌^◌, ◌<◌, ◌≤◌, true, false, ◌&&◌, eqb, Bool, cond, refl, List, [], ◌∷◌, ◌++◌, length, get_or, drop, set, Some, None, sym, ap, ◌∙◌, append_assoc, pow-suc, arith}
use Rattle.std.proofs.lemmas.List.{at_drop_more, at_drop_all, drop-set}
use Rattle.std.proofs.lemmas.Bool.{and_left, and_right, and_from, eqb-true, eqb-false, lt-ltb, le-ltb, eq-eqb}
use Rattle.std.proofs.lemmas.Bool.Decides.{nat_tests}
use Rattle.samples.specs.Codes.{hex_byte, hex_value, digit_of, hex_text, all_hex, hex_number, is_code}
use Rattle.samples.proofs.Digits.{last_digit}

pow16_up : (i k : ℕ) → 16 ^ i ≤ 16 ^ (i + k)
pow16_up i zero = let e : i + 0 ≡ i = omega arith in omega (arith, ap (λ j. 16 ^ j) e)
pow16_up i (suc k) =
    let e : i + suc k ≡ suc (i + k) = omega arith in
    let p : 16 ^ (i + suc k) ≡ 16 ^ (i + k) * 16 = ap (λ j. 16 ^ j) e ∙ pow-suc 16 (i + k) in
    omega (arith, pow16_up i k)

-- Reading: the digits before i make n -------------------------------------------------------------------------------

pub hex_bound : (i n d : ℕ) → n < 16 ^ i → d < 16 → 16 * n + d < 16 ^ (i + 1)
hex_bound i n d h k =
    let e : i + 1 ≡ suc i = omega arith in
    let p : 16 ^ (i + 1) ≡ 16 ^ i * 16 = ap (λ j. 16 ^ j) e ∙ pow-suc 16 i in
    omega arith

pub hex_fits : (i n d : ℕ) → n < 16 ^ i → d < 16 → i < 12 → 16 * n + d < 2 ^ 64
hex_fits i n d h k l =
    let e : i + 1 + (11 - i) ≡ 12 = omega arith in
    let p = pow16_up (i + 1) (11 - i) in
    let q : 16 ^ (i + 1 + (11 - i)) ≡ 16 ^ 12 = ap (λ j. 16 ^ j) e in
    omega (arith, hex_bound i n d h k)

by_test : (t : Bool) (d v : ℕ) → Some d ≡ cond t None (Some v) → d ≡ v
by_test true d v e = absurd (cc e)
by_test false d v e = cc e

is_digit : (t : Bool) (d v : ℕ) → Some d ≡ cond t None (Some v) → t ≡ false
is_digit true d v e = absurd (cc e)
is_digit false d v e = refl

no_number : (t : Bool) (v : ℕ) → None ≡ cond t None (Some v) → t ≡ true
no_number true v e = refl
no_number false v e = absurd (cc e)

-- a byte's worth, where it is a digit, and where it is none
pub hex_digit : (c d : ℕ) → Some d ≡ digit_of c → (d ≡ hex_value c) × (d < 16)
hex_digit c d e =
    let le : hex_value c ≤ 16 = grind (arith, nat_tests) in
    let ne = eqb-false (hex_value c) 16 in
    let is : d ≡ hex_value c = by_test (eqb (hex_value c) 16) d (hex_value c) e in
    (is, omega (arith, ne (is_digit (eqb (hex_value c) 16) d (hex_value c) e)))

pub hex_none : (c : ℕ) → None ≡ digit_of c → hex_value c ≡ 16
hex_none c e = eqb-true (hex_value c) 16 (no_number (eqb (hex_value c) 16) (hex_value c) e)

module _ (w : List ℕ) (i n d : ℕ) (inside : i < length w) (is : d ≡ hex_value (get_or w i 0)) where
  pub number_more :
      n * 16 ^ length (drop i w) + hex_number (drop i w) ≡ hex_number w
      → (16 * n + d) * 16 ^ length (drop (i + 1) w) + hex_number (drop (i + 1) w) ≡ hex_number w
  number_more inv =
      let s = at_drop_more (λ s. n * 16 ^ length s + hex_number s) w i 0 inside in
      let p = pow-suc 16 (length (drop (i + 1) w)) in
      let one : n * 16 ^ suc (length (drop (i + 1) w)) ≡ n * (16 ^ length (drop (i + 1) w) * 16) = ap (λ x. n * x) p in
      let two : d * 16 ^ length (drop (i + 1) w) ≡ hex_value (get_or w i 0) * 16 ^ length (drop (i + 1) w) = ap (λ x. x * 16 ^ length (drop (i + 1) w)) is in
      omega arith

  pub all_more : d < 16 → all_hex (drop i w) ≡ all_hex w → all_hex (drop (i + 1) w) ≡ all_hex w
  all_more l inv =
      sym (at_drop_more all_hex w i 0 inside ∙ ap (λ b. b && all_hex (drop (i + 1) w)) (lt-ltb (hex_value (get_or w i 0)) 16 (omega arith))) ∙ inv

pub no_digit :
    (w : List ℕ) (i : ℕ) → i < length w → hex_value (get_or w i 0) ≡ 16 → all_hex (drop i w) ≡ all_hex w
    → (k : ℕ) → is_code k w ≡ false
no_digit w i inside e inv k =
    and_right (eqb (length w) k) _ (sym inv ∙ at_drop_more all_hex w i 0 inside ∙ and_left _ _ (le-ltb (hex_value (get_or w i 0)) 16 (omega arith)))

pub all_read :
    (w : List ℕ) (i n k : ℕ) → length w ≤ i → length w ≡ k
    → n * 16 ^ length (drop i w) + hex_number (drop i w) ≡ hex_number w → all_hex (drop i w) ≡ all_hex w
    → (is_code k w ≡ true) × (n ≡ hex_number w)
all_read w i n k h l r a =
    let s : n * 16 ^ length (drop i w) + hex_number (drop i w) ≡ n * 1 + 0 = at_drop_all (λ s. n * 16 ^ length s + hex_number s) w i h in
    (and_from _ _ (eq-eqb (length w) k l) (sym a ∙ at_drop_all all_hex w i h), omega arith)

-- Writing: the digits from i on stand in `out`, and `rest` is to be written before them ------------------------------

pub less_left : (i rest : ℕ) → rest < 16 ^ (i + 1) → rest / 16 < 16 ^ i
less_left i rest h =
    let e : i + 1 ≡ suc i = omega arith in
    let p : 16 ^ (i + 1) ≡ 16 ^ i * 16 = ap (λ j. 16 ^ j) e ∙ pow-suc 16 i in
    omega arith

pub digit_written :
    (i rest b : ℕ) (out : List ℕ) → rest < 16 ^ (i + 1) → i < length out → b ≡ hex_byte (rest % 16)
    → hex_text i (rest / 16) ++ drop i (set out i b) ≡ hex_text (i + 1) rest ++ drop (i + 1) out
digit_written i rest b out h inside is =
    let e : i + 1 ≡ suc i = omega arith in
    ap (λ s. hex_text i (rest / 16) ++ s) (drop-set out i b inside ∙ (λ j. is j ∷ drop (i + 1) out))
    ∙ sym (append_assoc (hex_text i (rest / 16)) (hex_byte (rest % 16) ∷ []) (drop (i + 1) out))
    ∙ ap (λ s. s ++ drop (i + 1) out) (sym (ap (λ k. hex_text k rest) e ∙ last_digit i rest (let p : 16 ^ (i + 1) ≡ 16 ^ suc i = ap (λ j. 16 ^ j) e in omega arith)))
