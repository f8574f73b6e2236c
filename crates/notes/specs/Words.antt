-- Notes as a group.
use Rattle.std.specs.Prelude.{◌≡◌, ℕ, ◌+◌, ◌-◌, ◌%◌, ◌^◌, ◌<◌, Bool, ◌==◌, refl}
use Rattle.std.proofs.Common.{mod-lt, lit<}
use mathlib.Core.HLevel.{is_prop→PathP}
use Rattle.std.proofs.Math.Bridge.{le_prop}
use Rattle.samples.specs.Group.{Group}
use Rattle.samples.specs.Modular.{Words as Modular, modular_laws}
use Rattle.notes.specs.declared.note.Note.{Note}

-- the note of a number
abbrev pub note_of : ℕ → Note
note_of n = record { value = n % 2 ^ 32; fits = mod-lt n (lit< tt) }

abbrev pub note_plus : Note → Note → Note
note_plus x y = note_of (x.value + y.value)

abbrev pub note_inverse : Note → Note
note_inverse x = note_of (2 ^ 32 - x.value)

abbrev pub note_zero : Note
note_zero = note_of 0

abbrev pub note_spark : Note
note_spark = note_of 1

-- a note is known by its number
pub note_same : (x y : Note) → x.value ≡ y.value → x ≡ y
note_same x y e = λ i. record { value = e i; fits = is_prop→PathP (λ j. e j < 2 ^ 32) (λ _. le_prop) x.fits y.fits i }

abbrev pub note_equal : Note → Note → Bool
note_equal x y = x.value == y.value

-- modulo 2^32
note_modular : Modular 32 (λ (x : Note). x.value) note_of
note_modular = record { some_bits = lit< tt; fits = λ x. x.fits; value-of = λ n. refl; same = note_same }

pub note_laws : Group note_plus note_inverse note_zero note_spark note_equal
note_laws = modular_laws note_modular
