-- One more digit of a numeral that is brought to at most 1000.
use Rattle.std.proofs.Common.{◌≡◌, ℕ, ◌+◌, ◌-◌, ◌*◌, ◌<◌, min, Bool, true, ◌&&◌, List, [], ◌∷◌, length, get_or, drop, sym, ap, ◌∙◌, arith}
use Rattle.std.specs.Char.{is_ascii_digit}
use Rattle.std.specs.Str.{all_ascii_digits}
use Rattle.std.proofs.lemmas.List.{at_drop_more}
use Rattle.format.specs.Numbers.{read_on}

and_true : (x y : Bool) → x ≡ true → (x && y) ≡ y
and_true x y e = ap (λ b. b && y) e

-- a number that is capped on the way is capped at the end
pub cap_on : (a : ℕ) (ds : List ℕ) → min 1000 (read_on (min 1000 a) ds) ≡ min 1000 (read_on a ds)
cap_on a [] = omega arith
cap_on a (c ∷ cs) =
    let e : min 1000 (10 * min 1000 a + (c - 48)) ≡ min 1000 (10 * a + (c - 48)) = omega arith in
    sym (cap_on (10 * min 1000 a + (c - 48)) cs) ∙ ap (λ x. min 1000 (read_on x cs)) e ∙ cap_on (10 * a + (c - 48)) cs

pub read_more : (ds : List ℕ) (i n m : ℕ) → i < length ds → m ≡ min 1000 (10 * n + (get_or ds i 0 - 48)) → min 1000 (read_on n (drop i ds)) ≡ min 1000 (read_on 0 ds) → min 1000 (read_on m (drop (i + 1) ds)) ≡ min 1000 (read_on 0 ds)
read_more ds i n m h e inv =
    ap (λ x. min 1000 (read_on x (drop (i + 1) ds))) e ∙ cap_on (10 * n + (get_or ds i 0 - 48)) (drop (i + 1) ds) ∙ sym (at_drop_more (λ s. min 1000 (read_on n s)) ds i 0 h) ∙ inv

pub digits_more : (ds : List ℕ) (i : ℕ) → i < length ds → is_ascii_digit (get_or ds i 0) ≡ true → all_ascii_digits (drop i ds) ≡ all_ascii_digits ds → all_ascii_digits (drop (i + 1) ds) ≡ all_ascii_digits ds
digits_more ds i h d inv = sym (at_drop_more all_ascii_digits ds i 0 h ∙ and_true (is_ascii_digit (get_or ds i 0)) _ d) ∙ inv
