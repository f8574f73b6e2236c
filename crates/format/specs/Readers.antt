-- Readers of a text, put together from steps of one token.
use Rattle.std.specs.Prelude.{ℕ, ◌-◌, cond, List, length}
use Rattle.std.specs.Str.{bytes_eq}
use Rattle.format.specs.Tokens.{token, after}

-- a value and the bytes that are left, or the byte of the wrong token and the reason
pub data Parsed (A : Type 0) : Type 0 where
  done : A → List ℕ → Parsed A
  fault : ℕ → ℕ → Parsed A

abbrev pub Reader : Type 0 → Type 0
Reader A = List ℕ → Parsed A

-- go on with what was read, or stay at the fault
abbrev pub then : {A B : Type 0} → Parsed A → (A → Reader B) → Parsed B
then (done a bs) f = f a bs
then (fault byte why) f = fault byte why

infixl 55 ◌>>=◌
infixl 55 ◌>>◌
abbrev pub ◌>>=◌ : {A B : Type 0} → Reader A → (A → Reader B) → Reader B
◌>>=◌ m f bs = then (m bs) f

abbrev pub ◌>>◌ : {A B : Type 0} → Reader A → Reader B → Reader B
◌>>◌ m k bs = then (m bs) (λ _. k)

abbrev pub yield : {A : Type 0} → A → Reader A
yield a bs = done a bs

-- what a token is worth, or the reason why it is wrong
pub data Worth (A : Type 0) : Type 0 where
  good : A → Worth A
  bad : ℕ → Worth A

-- The first token of bs is worth this. The whole text has n bytes, so that the token begins at byte n - length bs.
abbrev pub judged : {A : Type 0} → ℕ → List ℕ → Worth A → Parsed A
judged n bs (good a) = done a (after bs)
judged n bs (bad why) = fault (n - length bs) why

-- take one token and judge it
abbrev pub accept : {A : Type 0} → ℕ → (List ℕ → Worth A) → Reader A
accept n worth bs = judged n bs (worth (token bs))

-- the token t, and reason 0 at any other
abbrev pub exactly : List ℕ → List ℕ → Worth (Unit {0})
exactly t w = cond (bytes_eq w t) (good tt) (bad 0)

abbrev pub expect : ℕ → List ℕ → Reader (Unit {0})
expect n t = accept n (exactly t)
