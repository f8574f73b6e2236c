-- Addition modulo 2^w, for words of any width w.
use Rattle.std.proofs.Common.{◌≡◌, ℕ, ◌+◌, ◌-◌, ◌%◌, ◌^◌, ◌<◌, sym, refl, ap, ◌∙◌, mod-eq_of_lt, eqb, arith}
use Rattle.std.proofs.Math.Nat.{mod-add-mod, add-mod-mod, mod_self}
use Rattle.std.proofs.lemmas.Nat.{pow_pos, pow_below}
use Rattle.std.proofs.lemmas.Bool.{eqb-true, eq-eqb}
use Rattle.samples.specs.Group.{Group}

-- The numbers below 2^w.
module _ (w : ℕ) where
  plus_assoc : (a b c : ℕ) → ((a + b) % 2 ^ w + c) % 2 ^ w ≡ (a + (b + c) % 2 ^ w) % 2 ^ w
  plus_assoc a b c = mod-add-mod (a + b) (2 ^ w) c ∙ ap (λ n. n % 2 ^ w) (omega arith) ∙ sym (add-mod-mod a (b + c) (2 ^ w))

  plus_comm : (a b : ℕ) → (a + b) % 2 ^ w ≡ (b + a) % 2 ^ w
  plus_comm a b = ap (λ n. n % 2 ^ w) (omega arith)

  plus_zero : (a : ℕ) → a < 2 ^ w → (a + 0 % 2 ^ w) % 2 ^ w ≡ a
  plus_zero a fits = add-mod-mod a 0 (2 ^ w) ∙ ap (λ n. n % 2 ^ w) (omega arith) ∙ mod-eq_of_lt fits

  plus_inverse : (a : ℕ) → a < 2 ^ w → (a + (2 ^ w - a) % 2 ^ w) % 2 ^ w ≡ 0 % 2 ^ w
  plus_inverse a fits = add-mod-mod a (2 ^ w - a) (2 ^ w) ∙ ap (λ n. n % 2 ^ w) (omega arith) ∙ mod_self (2 ^ w) ∙ sym (mod-eq_of_lt (pow_pos w))

  one_apart : 0 < w → 1 % 2 ^ w ≡ 0 % 2 ^ w → ⊥
  one_apart some e =
      let one : 1 % 2 ^ w ≡ 1 = mod-eq_of_lt (pow_below 0 w some) in
      let none : 0 % 2 ^ w ≡ 0 = mod-eq_of_lt (pow_pos w) in
      omega arith

-- Words of w bits: a word is known by its number, and every number is that of a word modulo 2^w.
pub record Words (w : ℕ) {S : Type 0} (value : S → ℕ) (of : ℕ → S) : Type 0 where
  pub some_bits : 0 < w
  pub fits : (x : S) → value x < 2 ^ w
  pub value-of : (n : ℕ) → value (of n) ≡ n % 2 ^ w
  pub same : (x y : S) → value x ≡ value y → x ≡ y

module _ {w : ℕ} {S : Type 0} {value : S → ℕ} {of : ℕ → S} (words : Words w value of) where
  -- They are a group, whose plus adds the numbers.
  pub modular_laws : Group (λ x y. of (value x + value y)) (λ x. of (2 ^ w - value x)) (of 0) (of 1) (λ x y. eqb (value x) (value y))
  modular_laws = record {
    assoc = λ x y z. words.same _ _ (
        words.value-of _ ∙ ap (λ n. (n + value z) % 2 ^ w) (words.value-of (value x + value y)) ∙ plus_assoc w (value x) (value y) (value z)
        ∙ ap (λ n. (value x + n) % 2 ^ w) (sym (words.value-of (value y + value z))) ∙ sym (words.value-of _));
    comm = λ x y. words.same _ _ (words.value-of _ ∙ plus_comm w (value x) (value y) ∙ sym (words.value-of _));
    neutral = λ x. words.same _ _ (words.value-of _ ∙ ap (λ n. (value x + n) % 2 ^ w) (words.value-of 0) ∙ plus_zero w (value x) (words.fits x));
    cancel = λ x. words.same _ _ (
        words.value-of _ ∙ ap (λ n. (value x + n) % 2 ^ w) (words.value-of (2 ^ w - value x)) ∙ plus_inverse w (value x) (words.fits x) ∙ sym (words.value-of 0));
    apart = λ e. one_apart w words.some_bits (sym (words.value-of 1) ∙ ap value e ∙ words.value-of 0);
    equal_same = λ x y e. words.same x y (eqb-true (value x) (value y) e);
    equal_self = λ x. eq-eqb (value x) (value x) refl;
  }
