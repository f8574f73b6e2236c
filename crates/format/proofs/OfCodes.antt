-- Codes: each is a word, and it is read as its sample.
use Rattle.std.proofs.Common.{◌≡◌, ℕ, zero, suc, ◌/◌, ◌%◌, ◌^◌, false, List, Some, None, Option, ap, arith}
use Rattle.std.proofs.lemmas.Bool.Decides.{nat_tests}
use Rattle.samples.specs.declared.coded.Coded.{Ghosts as Codes}
use Rattle.samples.specs.Codes.{hex_byte, hex_text}
use Rattle.samples.specs.Reading.{code, read_code}
use Rattle.samples.proofs.Codings.{one_to_one}
use Rattle.samples.proofs.Digits.{length-hex_text}
use Rattle.format.specs.Format.{there, code_word}
use Rattle.format.specs.Readers.{good}
use Rattle.samples.specs.Names.{mark, Unmarked, IsWord}
use Rattle.format.proofs.OfNumbers.{word_from}

unmarked_hex : (d : ℕ) → mark (hex_byte d) ≡ false
unmarked_hex d = grind (arith, nat_tests)

unmarked_text : (w n : ℕ) → Unmarked (hex_text w n)
unmarked_text zero n = tt
unmarked_text (suc w) n = (unmarked_hex (n / 16 ^ w), unmarked_text w (n % 16 ^ w))

there_back : {A : Type 0} (o : Option A) (a : A) → there o ≡ good a → o ≡ Some a
there_back None a h = let z : ◌≡◌ {A = ℕ} 0 1 = cc in absurd (omega arith)
there_back (Some b) a h = let e : b ≡ a = cc in λ i. Some (e i)

module _ {S : Type 0} (C : Codes S) where
  pub word_code : (x : S) → IsWord (code C x)
  word_code x =
      word_from (code C x) (omega (arith, length-hex_text C.width (C.number x), C.coding.some_digits)) (unmarked_text C.width (C.number x))

  pub sample_there : (x : S) → code_word C (code C x) ≡ good x
  sample_there x = ap there ((one_to_one C).reads_back x)

  pub sample_back : (w : List ℕ) (x : S) → code_word C w ≡ good x → w ≡ code C x
  sample_back w x h = (one_to_one C).writes_back w x (there_back (read_code C w) x h)
