-- Hexadecimal digits: writing and reading undo one another.
use Rattle.std.proofs.Common.{◌≡◌, ℕ, zero, suc, ◌+◌, ◌*◌, ◌/◌, ◌%◌, ◌^◌, ◌<◌, true, eqb, ltb, List, [], ◌∷◌, ◌++◌, length, sym, refl, ap, ◌∙◌, subst, mod-lt, div-lt_iff_lt-mul, pow-suc, div-add-mod', arith}
use native.Mathlib.Nat.{pow-succ', div-div-eq-div-mul}
use lib.Arith.{digits_lt, digits_div, digits_mod}
use Rattle.std.proofs.lemmas.Nat.{mod-pow-add}
use Rattle.std.proofs.lemmas.Bool.{and_parts, and_from, eqb-true, eq-eqb, ltb-true, lt-ltb}
use Rattle.std.proofs.lemmas.Bool.Decides.{nat_tests}
use Rattle.samples.specs.Codes.{hex_byte, hex_value, hex_text, all_hex, hex_number, is_code}

pub hex_there : (d : ℕ) → d < 16 → hex_value (hex_byte d) ≡ d
hex_there d h = grind (arith, nat_tests)

pub hex_back : (c : ℕ) → hex_value c < 16 → hex_byte (hex_value c) ≡ c
hex_back c h = grind (arith, nat_tests)

pub pow16 : (w : ℕ) → 0 < 16 ^ w
pow16 zero = omega arith
pow16 (suc w) = rw pow-suc (omega (arith, pow16 w))

pub length-hex_text : (w n : ℕ) → length (hex_text w n) ≡ w
length-hex_text zero n = refl
length-hex_text (suc w) n = ap suc (length-hex_text w (n % 16 ^ w))

top_digit : (w n : ℕ) → n < 16 ^ suc w → n / 16 ^ w < 16
top_digit w n h = (div-lt_iff_lt-mul (pow16 w)).1 (omega (arith, rw pow-suc at h))

all_hex-hex_text : (w n : ℕ) → n < 16 ^ w → all_hex (hex_text w n) ≡ true
all_hex-hex_text zero n h = refl
all_hex-hex_text (suc w) n h =
    and_from _ _ (lt-ltb _ 16 (let d = top_digit w n h in omega (arith, hex_there (n / 16 ^ w) d))) (all_hex-hex_text w (n % 16 ^ w) (mod-lt n (pow16 w)))

hex_number-hex_text : (w n : ℕ) → n < 16 ^ w → hex_number (hex_text w n) ≡ n
hex_number-hex_text zero n h = omega arith
hex_number-hex_text (suc w) n h =
    rw (hex_there (n / 16 ^ w) (top_digit w n h), length-hex_text w (n % 16 ^ w), hex_number-hex_text w (n % 16 ^ w) (mod-lt n (pow16 w)))
    (div-add-mod' n (16 ^ w))

-- a written code is one, of that number
pub code_there : (w n : ℕ) → n < 16 ^ w → (is_code w (hex_text w n) ≡ true) × (hex_number (hex_text w n) ≡ n)
code_there w n h = (and_from _ _ (eq-eqb _ w (length-hex_text w n)) (all_hex-hex_text w n h), hex_number-hex_text w n h)

text_back : (cs : List ℕ) → all_hex cs ≡ true → (hex_number cs < 16 ^ length cs) × (hex_text (length cs) (hex_number cs) ≡ cs)
text_back [] h = (omega arith, refl)
text_back (c ∷ cs) h =
    let p = and_parts (ltb (hex_value c) 16) _ h in
    let d = ltb-true (hex_value c) 16 p.0 in
    let r = text_back cs p.1 in (
      rw pow-succ' (digits_lt d r.0),
      λ i. (ap hex_byte (digits_div (hex_value c) r.0) ∙ hex_back c d) i ∷ (ap (hex_text (length cs)) (digits_mod (hex_value c) r.0) ∙ r.1) i,
    )

-- a code is what is written of its number
pub code_back : (w : ℕ) (cs : List ℕ) → is_code w cs ≡ true → (hex_number cs < 16 ^ w) × (hex_text w (hex_number cs) ≡ cs)
code_back w cs h =
    let p = and_parts (eqb (length cs) w) _ h in
    subst (λ k. (hex_number cs < 16 ^ k) × (hex_text k (hex_number cs) ≡ cs)) (eqb-true (length cs) w p.0) (text_back cs p.1)

-- The last digit ---------------------------------------------------------------------------------------------------

pow_sixteen : (j : ℕ) → 16 ^ j ≡ 2 ^ (4 * j)
pow_sixteen zero = refl
pow_sixteen (suc j) =
    let e : 4 * suc j ≡ suc (suc (suc (suc (4 * j)))) = omega arith in
    pow-suc 16 j ∙ ap (λ x. x * 16) (pow_sixteen j)
    ∙ sym (ap (λ k. 2 ^ k) e ∙ (let a = pow-suc 2 (suc (suc (suc (4 * j)))) in let b = pow-suc 2 (suc (suc (4 * j))) in let d = pow-suc 2 (suc (4 * j)) in let f = pow-suc 2 (4 * j) in omega arith))

low_part : (n j : ℕ) → n % 16 ^ suc j ≡ (n / 16 % 16 ^ j) * 16 + n % 16
low_part n j =
    let e : 4 * suc j ≡ 4 * j + 4 = omega arith in
    ap (λ m. n % m) (pow_sixteen (suc j) ∙ ap (λ k. 2 ^ k) e) ∙ mod-pow-add n (4 * j) 4
    ∙ ap (λ m. n / 16 % m * 16 + n % 16) (sym (pow_sixteen j))

pub last_digit : (w n : ℕ) → n < 16 ^ suc w → hex_text (suc w) n ≡ hex_text w (n / 16) ++ (hex_byte (n % 16) ∷ [])
last_digit zero n h =
    let e : n / 1 ≡ n % 16 = omega arith in λ i. hex_byte (e i) ∷ []
last_digit (suc w) n h =
    let low = low_part n w in
    let below = mod-lt n (pow16 (suc w)) in
    let front : n / 16 ^ suc w ≡ n / 16 / 16 ^ w = ap (λ m. n / m) (pow-succ' 16 w) ∙ sym (div-div-eq-div-mul n 16 (16 ^ w)) in
    let rest : n % 16 ^ suc w / 16 ≡ n / 16 % 16 ^ w = omega arith in
    let end : n % 16 ^ suc w % 16 ≡ n % 16 = omega arith in
    (λ i. hex_byte (front i) ∷ last_digit w (n % 16 ^ suc w) below i)
    ∙ (λ i. hex_byte (n / 16 / 16 ^ w) ∷ (hex_text w (rest i) ++ (hex_byte (end i) ∷ [])))
