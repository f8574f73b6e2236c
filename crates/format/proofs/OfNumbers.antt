-- Numerals: writing and reading undo one another.
use Rattle.std.proofs.Common.{◌≡◌, ℕ, zero, suc, ◌^◌, ◌<◌, Bool, true, false, cond, not, eqb, leb, List, [], ◌∷◌, length, get_or, ℤ, pos, negsuc, nat_abs, Some, None, decimal, Option, sym, refl, ap, ◌∙◌, subst, ⊎_elim, arith, rules}
use Rattle.std.specs.Fmt.{signed_decimal}
use Rattle.std.specs.Str.{all_ascii_digits}
use Rattle.std.proofs.lemmas.Fmt.{digits_decimal, digits_value-decimal, decimal_nonempty, first_decimal, decimal_digit, decimal-digits_value}
use Rattle.std.proofs.lemmas.Str.Parse.{IsNumeralModel, numerals_by_fold}
use Rattle.std.proofs.lemmas.Bool.{cond-true, cond-false, and_parts, and_from, eqb-true, eqb-false, ne_eqb, leb-true, cases_Bool, not-true, not_from_false}
use Rattle.std.proofs.lemmas.Bool.Decides.{nat_tests}
use Rattle.std.specs.Char.{is_ascii_digit}
use Rattle.samples.specs.Names.{mark, Unmarked, IsWord}
use Rattle.format.specs.Numbers.{read_on, plain, minus, numeral}
use Rattle.format.specs.Readers.{good, bad}

own : IsNumeralModel (λ ds. all_ascii_digits ds ≡ true) (read_on 0)
own = numerals_by_fold _ (search rules) read_on (search rules)

-- digits with no needless zero
plain_from : (ds : List ℕ) → all_ascii_digits ds ≡ true → 0 < length ds → (get_or ds 0 0 ≡ 48 → length ds ≡ 1) → plain ds ≡ true
plain_from [] a l z = absurd (omega arith)
plain_from (c ∷ []) a l z = a
plain_from (c ∷ d ∷ ds) a l z = and_from (not (eqb c 48)) _ (not_from_false _ (ne_eqb c 48 (λ e. omega (arith, z e)))) a

pub record Plain (ds : List ℕ) : Type 0 where
  pub digits : all_ascii_digits ds ≡ true
  pub some : 0 < length ds
  pub lean : get_or ds 0 0 ≡ 48 → length ds ≡ 1

plain_back : (ds : List ℕ) → plain ds ≡ true → Plain ds
plain_back [] h = let z : ◌≡◌ {A = ℕ} 0 1 = cc in absurd (omega arith)
plain_back (c ∷ []) h = record { digits = h; some = omega arith; lean = λ _. refl }
plain_back (c ∷ d ∷ ds) h =
    let p = and_parts (not (eqb c 48)) _ h in
    record { digits = p.1; some = omega arith; lean = λ e. absurd (eqb-false c 48 (not-true _ p.0) e) }

plain_decimal : (n : ℕ) → n < 2 ^ 64 → plain (decimal n) ≡ true
plain_decimal n h = plain_from (decimal n) (digits_decimal own n h) (decimal_nonempty n h) (lean n h)
  where
    lean : (n : ℕ) → n < 2 ^ 64 → get_or (decimal n) 0 0 ≡ 48 → length (decimal n) ≡ 1
    lean zero h e = ap length (decimal_digit 0 (omega arith))
    lean (suc n) h e = absurd (omega (arith, first_decimal (suc n) (omega arith) h))

not_minus : (c : ℕ) (cs : List ℕ) → all_ascii_digits (c ∷ cs) ≡ true → eqb c 45 ≡ false
not_minus c cs a = let d = and_parts (leb 48 c) (leb c 57) (and_parts (is_ascii_digit c) (all_ascii_digits cs) a).0 in ne_eqb c 45 (λ e. omega (arith, leb-true 48 c d.0))

numeral_plain : (ds : List ℕ) → plain ds ≡ true → numeral ds ≡ Some (pos (read_on 0 ds))
numeral_plain [] h = absurd (let z : ◌≡◌ {A = ℕ} 0 1 = cc in omega arith)
numeral_plain (c ∷ cs) h = cond-false (eqb c 45) _ _ (not_minus c cs (plain_back (c ∷ cs) h).digits) ∙ cond-true (plain (c ∷ cs)) _ _ h

-- a written number is read as that number
pub numeral_signed : (z : ℤ) → nat_abs z < 2 ^ 64 → numeral (signed_decimal z) ≡ Some z
numeral_signed (pos n) h = numeral_plain (decimal n) (plain_decimal n h) ∙ ap {B = Option ℤ} (λ v. Some (pos v)) (digits_value-decimal own n h)
numeral_signed (negsuc n) h = cond-true (plain (decimal (suc n))) _ _ (plain_decimal (suc n) h) ∙ ap minus (digits_value-decimal own (suc n) h)

decimal_back : (ds : List ℕ) → plain ds ≡ true → read_on 0 ds < 2 ^ 64 → decimal (read_on 0 ds) ≡ ds
decimal_back ds h small = let p = plain_back ds h in decimal-digits_value own ds p.digits p.some p.lean small

minus_back : (v : ℕ) (z : ℤ) → minus v ≡ Some z → (m : ℕ) × (v ≡ suc m) × (z ≡ negsuc m)
minus_back zero z h = absurd (let e : ◌≡◌ {A = ℕ} 0 1 = cc in omega arith)
minus_back (suc m) z h = (m, refl, cc)

-- a numeral is what is written of the number that it is read as
pub numeral_back : (w : List ℕ) (z : ℤ) → numeral w ≡ Some z → nat_abs z < 2 ^ 64 → w ≡ signed_decimal z
numeral_back [] z h small = absurd (let e : ◌≡◌ {A = ℕ} 0 1 = cc in omega arith)
numeral_back (c ∷ cs) z h small = ⊎_elim negative positive (cases_Bool (eqb c 45))
  where
    negative : eqb c 45 ≡ true → (c ∷ cs) ≡ signed_decimal z
    negative e =
        let inner = sym (cond-true (eqb c 45) _ _ e) ∙ h in
        ⊎_elim
        (λ p.
        let m = minus_back (read_on 0 cs) z (sym (cond-true (plain cs) _ _ p) ∙ inner) in
        let s : nat_abs (negsuc m.0) < 2 ^ 64 = subst (λ y. nat_abs y < 2 ^ 64) m.2 small in
        let v : read_on 0 cs < 2 ^ 64 = omega (arith, m.1) in
        let d = decimal_back cs p v in
        let f : (c ∷ cs) ≡ 45 ∷ decimal (suc m.0) = (λ i. eqb-true c 45 e i ∷ (sym d ∙ ap decimal m.1) i) in
        f ∙ sym (ap signed_decimal m.2))
        (λ p. absurd (let e2 = sym (cond-false (plain cs) (minus (read_on 0 cs)) None p) ∙ inner in let x : ◌≡◌ {A = ℕ} 0 1 = cc in omega arith))
        (cases_Bool (plain cs))

    positive : eqb c 45 ≡ false → (c ∷ cs) ≡ signed_decimal z
    positive e =
        let inner = sym (cond-false (eqb c 45) _ _ e) ∙ h in
        ⊎_elim
        (λ p.
        let y : Some (pos (read_on 0 (c ∷ cs))) ≡ Some z = sym (cond-true (plain (c ∷ cs)) _ _ p) ∙ inner in
        let m : pos (read_on 0 (c ∷ cs)) ≡ z = cc in
        let s : read_on 0 (c ∷ cs) < 2 ^ 64 = subst (λ y. nat_abs y < 2 ^ 64) (sym m) small in
        sym (decimal_back (c ∷ cs) p s) ∙ ap signed_decimal m)
        (λ p. absurd (let e2 = sym (cond-false (plain (c ∷ cs)) (Some (pos (read_on 0 (c ∷ cs)))) None p) ∙ inner in let x : ◌≡◌ {A = ℕ} 0 1 = cc in omega arith))
        (cases_Bool (plain (c ∷ cs)))

-- digits are no marks
unmarked_digit : (c : ℕ) → is_ascii_digit c ≡ true → mark c ≡ false
unmarked_digit c h = let d = and_parts (leb 48 c) _ h in let low = leb-true 48 c d.0 in grind (arith, nat_tests)

unmarked_digits : (ds : List ℕ) → all_ascii_digits ds ≡ true → Unmarked ds
unmarked_digits [] h = tt
unmarked_digits (c ∷ cs) h = let p = and_parts (is_ascii_digit c) _ h in (unmarked_digit c p.0, unmarked_digits cs p.1)

pub word_from : (ds : List ℕ) → 0 < length ds → Unmarked ds → IsWord ds
word_from [] l u = absurd (omega arith)
word_from (c ∷ cs) l u = u

pub word_decimal : (n : ℕ) → n < 2 ^ 64 → IsWord (decimal n)
word_decimal n h = word_from (decimal n) (decimal_nonempty n h) (unmarked_digits (decimal n) (digits_decimal own n h))

pub word_signed : (z : ℤ) → nat_abs z < 2 ^ 64 → IsWord (signed_decimal z)
word_signed (pos n) h = word_decimal n h
word_signed (negsuc n) h = (refl, unmarked_digits (decimal (suc n)) (digits_decimal own (suc n) h))

-- what a test lets pass
pub passed : {A : Type 0} (b : Bool) (x : A) (why : ℕ) (a : A) → cond b (good x) (bad why) ≡ good a → (b ≡ true) × (x ≡ a)
passed true x why a h = (refl, cc)
passed false x why a h = let z : ◌≡◌ {A = ℕ} 0 1 = cc in absurd (omega arith)
