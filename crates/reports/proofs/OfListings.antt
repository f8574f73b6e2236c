-- Reading the numbers of a listing.
use Rattle.std.proofs.Common.{◌≡◌, ℕ, suc, ◌+◌, ◌-◌, ◌*◌, ◌<◌, ◌^◌, min, Bool, true, false, cond, not, eqb, leb, List, [], ◌∷◌, ◌++◌, length, get_or, take_while, drop, Some, decimal, codes as text, refl, sym, ap, ◌∙◌, arith, rules}
use Rattle.std.specs.Char.{is_ascii_digit}
use Rattle.std.specs.List.{prefix_len}
use Rattle.std.specs.Str.{all_ascii_digits}
use Rattle.std.proofs.lemmas.Bool.{cond-true, cond-false, and_parts, ne_eqb, leb-true}
use Rattle.std.proofs.lemmas.Fmt.{digits_decimal, digits_value-decimal}
use Rattle.std.proofs.lemmas.List.{at_drop_more}
use Rattle.std.proofs.lemmas.List.Sums.{take_while-cons}
use Rattle.std.proofs.lemmas.Str.Parse.{IsNumeralModel, numerals_by_fold}
use Rattle.format.specs.Numbers.{read_on}
use Rattle.reports.specs.Listings.{capped, after_space, front_number, numbers_read, ReadsRefusals}

-- one more digit, at most as large as M
cap_step : (M a d : ℕ) → min M (10 * min M a + d) ≡ min M (10 * a + d)
cap_step M a d = omega arith

-- a number that is capped on the way is capped at the end
cap_on : (M a : ℕ) (ds : List ℕ) → min M (read_on (min M a) ds) ≡ min M (read_on a ds)
cap_on M a [] = omega arith
cap_on M a (c ∷ cs) =
    sym (cap_on M (10 * min M a + (c - 48)) cs) ∙ ap (λ x. min M (read_on x cs)) (cap_step M a (c - 48)) ∙ cap_on M (10 * a + (c - 48)) cs

pub value_more : (ds : List ℕ) (i n m : ℕ) → i < length ds → m ≡ capped (10 * n + (get_or ds i 0 - 48)) → capped (read_on n (drop i ds)) ≡ capped (read_on 0 ds) → capped (read_on m (drop (i + 1) ds)) ≡ capped (read_on 0 ds)
value_more ds i n m h e inv =
    ap (λ x. capped (read_on x (drop (i + 1) ds))) e ∙ cap_on (2 ^ 64 - 1) (10 * n + (get_or ds i 0 - 48)) (drop (i + 1) ds)
    ∙ sym (at_drop_more (λ s. capped (read_on n s)) ds i 0 h) ∙ inv

pub own : IsNumeralModel (λ ds. all_ascii_digits ds ≡ true) (read_on 0)
own = numerals_by_fold _ (search rules) read_on (search rules)

-- a digit is no space
not_space : (c : ℕ) → is_ascii_digit c ≡ true → eqb c 32 ≡ false
not_space c d = ne_eqb c 32 (λ e. omega (arith, leb-true 48 c (and_parts (leb 48 c) (leb c 57) d).0))

-- behind digits and a space
after_digits : (ds ys : List ℕ) → all_ascii_digits ds ≡ true → after_space (ds ++ 32 ∷ ys) ≡ ys
after_digits [] ys h = refl
after_digits (c ∷ cs) ys h =
    let d = and_parts (is_ascii_digit c) (all_ascii_digits cs) h in
    let rest = cs ++ 32 ∷ ys in
    let k = prefix_len (λ b. not (eqb b 32)) rest in
    let more : 1 + k + 1 ≡ suc (k + 1) = omega arith in
    ap (λ (b : Bool). drop (cond (not b) (1 + k) 0 + 1) (c ∷ rest)) (not_space c d.0) ∙ ap (λ m. drop m (c ∷ rest)) more ∙ after_digits cs ys d.1

-- digits before another byte
take_digits : (ds : List ℕ) (y : ℕ) (ys : List ℕ) → all_ascii_digits ds ≡ true → is_ascii_digit y ≡ false → take_while is_ascii_digit (ds ++ y ∷ ys) ≡ ds
take_digits [] y ys h e = take_while-cons is_ascii_digit y ys ∙ cond-false (is_ascii_digit y) _ _ e
take_digits (c ∷ cs) y ys h e =
    let d = and_parts (is_ascii_digit c) (all_ascii_digits cs) h in
    take_while-cons is_ascii_digit c (cs ++ y ∷ ys) ∙ cond-true (is_ascii_digit c) _ _ d.0 ∙ ap (λ t. c ∷ t) (take_digits cs y ys d.1 e)

front_decimal : (n y : ℕ) (ys : List ℕ) → n < 2 ^ 64 → is_ascii_digit y ≡ false → front_number (decimal n ++ y ∷ ys) ≡ n
front_decimal n y ys h e =
    let whole : capped n ≡ n = omega arith in
    ap (λ t. capped (read_on 0 t)) (take_digits (decimal n) y ys (digits_decimal own n h) e) ∙ ap capped (digits_value-decimal own n h) ∙ whole

pub reads_refusals : ReadsRefusals
reads_refusals r f =
    let x4 = decimal r.third ++ (41 ∷ (10 ∷ [])) in
    let x3 = decimal r.second ++ (32 ∷ x4) in
    let x2 = decimal r.first ++ (32 ∷ x3) in
    let x1 = decimal r.number ++ (32 ∷ x2) in
    let t = text "(refused " ++ x1 in
    let e2 : after_space (after_space t) ≡ x2 = after_digits (decimal r.number) x2 (digits_decimal own r.number f.number) in
    let e3 : after_space (after_space (after_space t)) ≡ x3 = ap after_space e2 ∙ after_digits (decimal r.first) x3 (digits_decimal own r.first f.first) in
    let e4 : after_space (after_space (after_space (after_space t))) ≡ x4 = ap after_space e3 ∙ after_digits (decimal r.second) x4 (digits_decimal own r.second f.second) in
    let n : front_number (after_space t) ≡ r.number = front_decimal r.number 32 x2 f.number refl in
    let a : front_number (after_space (after_space t)) ≡ r.first = ap front_number e2 ∙ front_decimal r.first 32 x3 f.first refl in
    let b : front_number (after_space (after_space (after_space t))) ≡ r.second = ap front_number e3 ∙ front_decimal r.second 32 x4 f.second refl in
    let d : front_number (after_space (after_space (after_space (after_space t)))) ≡ r.third = ap front_number e4 ∙ front_decimal r.third 41 (10 ∷ []) f.third refl in
    let same : numbers_read t ≡ r = λ i. record { number = n i; first = a i; second = b i; third = d i } in
    ap Some same
