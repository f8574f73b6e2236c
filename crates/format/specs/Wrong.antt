-- What a refusal of a text tells, in words of its tokens.
use Rattle.std.specs.Prelude.{◌≡◌, ◌≢◌, ℕ, zero, suc, ◌+◌, ◌≤◌, List, [], ◌∷◌, ◌++◌, length, reverse, count_by, ◌==◌}
use Rattle.samples.specs.declared.coded.Coded.{Ghosts as Codes}
use Rattle.format.specs.Format.{read_file, refused}
use Rattle.format.specs.Reasons.{TellsReason}
use Rattle.format.specs.Tokens.{token, after}

-- the first n tokens of bs; those beyond its end are empty
abbrev pub first_tokens : ℕ → List ℕ → List (List ℕ)
first_tokens zero bs = []
first_tokens (suc n) bs = token bs ∷ first_tokens n (after bs)

-- what follows the first n tokens
abbrev pub skip : ℕ → List ℕ → List ℕ
skip zero bs = bs
skip (suc n) bs = skip n (after bs)

-- the bytes of some tokens
abbrev pub bytes_of : List (List ℕ) → List ℕ
bytes_of [] = []
bytes_of (w ∷ ws) = w ++ bytes_of ws

-- The text t is refused at its first wrong token, which stands behind so many others: byte is where it begins, line its line.
-- The reason goes by that token and those before it, the nearest first.
-- What comes later counts for nothing: every text with these tokens is refused so, and none is a file.
-- No fewer tokens tell as much: some other text with the tokens before it is not refused so.
pub record WrongToken {S : Type 0} (C : Codes S) (t : List ℕ) (line byte why : ℕ) : Type 0 where
  pub others : ℕ
  pub begins : byte ≡ length (bytes_of (first_tokens others t))
  pub inside : byte ≤ length t
  pub line_is : line ≡ 1 + count_by (λ b. b == 10) (bytes_of (first_tokens others t))
  pub reason : TellsReason (reverse (first_tokens others t)) (token (skip others t)) why
  pub decides : (s : List ℕ) → first_tokens (suc others) s ≡ first_tokens (suc others) t → read_file C s ≡ refused line byte why
  pub other : List ℕ
  pub same_before : first_tokens others other ≡ first_tokens others t
  pub needed : read_file C other ≢ refused line byte why

abbrev pub TellsWrong : {S : Type 0} → Codes S → Type 0
TellsWrong C = (t : List ℕ) (line byte why : ℕ) → read_file C t ≡ refused line byte why → WrongToken C t line byte why
