-- Sum words and XOR words as groups.
use Rattle.std.specs.Prelude.{◌≡◌, ℕ, ◌+◌, ◌-◌, ◌%◌, ◌^◌, ◌<◌, Bool, ◌==◌, bit_xor, refl}
use Rattle.std.proofs.Common.{ap, mod-lt, arith, lit<}
use mathlib.Core.HLevel.{is_prop→PathP}
use Rattle.std.proofs.Math.Bridge.{le_prop}
use Rattle.std.specs.Int.Bits.{xor_assoc, xor_zero_r, xor_self}
use Rattle.std.proofs.lemmas.Nat.{xor_comm, xor_lt}
use Rattle.std.proofs.lemmas.Bool.{eqb-true, eq-eqb}
use Rattle.samples.specs.Group.{Group}
use Rattle.samples.specs.declared.words.SumWord.{SumWord}
use Rattle.samples.specs.declared.words.XorWord.{XorWord}
use Rattle.samples.specs.Modular.{Words as Modular, modular_laws}

-- the sum word of a number
abbrev pub sum_of : ℕ → SumWord
sum_of n = record { value = n % 2 ^ 16; fits = mod-lt n (lit< tt) }

abbrev pub sum_plus : SumWord → SumWord → SumWord
sum_plus x y = sum_of (x.value + y.value)

abbrev pub sum_inverse : SumWord → SumWord
sum_inverse x = sum_of (2 ^ 16 - x.value)

abbrev pub sum_zero : SumWord
sum_zero = sum_of 0

abbrev pub sum_spark : SumWord
sum_spark = sum_of 1

-- a sum word is known by its number
pub sum_same : (x y : SumWord) → x.value ≡ y.value → x ≡ y
sum_same x y e = λ i. record { value = e i; fits = is_prop→PathP (λ j. e j < 2 ^ 16) (λ _. le_prop) x.fits y.fits i }

abbrev pub sum_equal : SumWord → SumWord → Bool
sum_equal x y = x.value == y.value

-- modulo 2^16
sum_modular : Modular 16 (λ (x : SumWord). x.value) sum_of
sum_modular = record { some_bits = lit< tt; fits = λ x. x.fits; value-of = λ n. refl; same = sum_same }

pub sum_laws : Group sum_plus sum_inverse sum_zero sum_spark sum_equal
sum_laws = modular_laws sum_modular

-- the XOR word of a number
abbrev pub xor_of : ℕ → XorWord
xor_of n = record { value = n % 2 ^ 32; fits = mod-lt n (lit< tt) }

abbrev pub xor_plus : XorWord → XorWord → XorWord
xor_plus x y = record { value = bit_xor x.value y.value; fits = xor_lt 32 x.value y.value x.fits y.fits }

abbrev pub xor_inverse : XorWord → XorWord
xor_inverse x = x

abbrev pub xor_zero : XorWord
xor_zero = xor_of 0

abbrev pub xor_spark : XorWord
xor_spark = xor_of 1

-- an XOR word is known by its number
pub xor_same : (x y : XorWord) → x.value ≡ y.value → x ≡ y
xor_same x y e = λ i. record { value = e i; fits = is_prop→PathP (λ j. e j < 2 ^ 32) (λ _. le_prop) x.fits y.fits i }

abbrev pub xor_equal : XorWord → XorWord → Bool
xor_equal x y = x.value == y.value

pub xor_laws : Group xor_plus xor_inverse xor_zero xor_spark xor_equal
xor_laws = record {
  assoc = λ x y z. xor_same _ _ (xor_assoc x.value y.value z.value);
  comm = λ x y. xor_same _ _ (xor_comm x.value y.value);
  neutral = λ x. xor_same _ _ (xor_zero_r x.value);
  cancel = λ x. xor_same _ _ (xor_self x.value);
  apart = λ e. let v : ◌≡◌ {A = ℕ} 1 0 = ap (λ w. w.value) e in omega arith;
  equal_same = λ x y e. xor_same x y (eqb-true x.value y.value e);
  equal_self = λ x. eq-eqb x.value x.value refl;
}
