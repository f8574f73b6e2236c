-- Codes of samples: capital hexadecimal digits, the first with the most weight.
use Rattle.std.specs.Prelude.{◌≡◌, ℕ, zero, suc, ◌+◌, ◌-◌, ◌*◌, ◌/◌, ◌%◌, ◌^◌, ◌<◌, ◌≤◌, Bool, true, cond, ◌&&◌, List, [], ◌∷◌, length, Some, None, Option, ◌==◌, nat_le, nat_lt}

-- the digit d of base sixteen as a byte: 0 to 9, A to F
abbrev pub hex_byte : ℕ → ℕ
hex_byte d = cond (nat_lt d 10) (48 + d) (55 + d)

-- what a byte stands for as such a digit; 16 if it is none
abbrev pub hex_value : ℕ → ℕ
hex_value c = cond (nat_le 48 c && nat_le c 57) (c - 48) (cond (nat_le 65 c && nat_le c 70) (c - 55) 16)

-- the same, none where the byte is no digit
abbrev pub digit_of : ℕ → Option ℕ
digit_of c = cond (hex_value c == 16) None (Some (hex_value c))

-- n in w digits
abbrev pub hex_text : ℕ → ℕ → List ℕ
hex_text zero n = []
hex_text (suc w) n = hex_byte (n / 16 ^ w) ∷ hex_text w (n % 16 ^ w)

abbrev pub all_hex : List ℕ → Bool
all_hex [] = true
all_hex (c ∷ cs) = nat_lt (hex_value c) 16 && all_hex cs

-- the number that digits write
abbrev pub hex_number : List ℕ → ℕ
hex_number [] = 0
hex_number (c ∷ cs) = hex_value c * 16 ^ length cs + hex_number cs

-- w digits and nothing else
abbrev pub is_code : ℕ → List ℕ → Bool
is_code w cs = length cs == w && all_hex cs

-- A kind with a code: its samples are the numbers of w digits, one for one.
pub record Coding {S : Type 0} (width : ℕ) (number : S → ℕ) (sample : ℕ → S) : Type 0 where
  pub some_digits : 0 < width
  pub few_digits : width ≤ 12
  pub number_fits : (x : S) → number x < 16 ^ width
  pub sample_number : (x : S) → sample (number x) ≡ x
  pub number_sample : (n : ℕ) → n < 16 ^ width → number (sample n) ≡ n
