-- What the lexer gives, and how a call's result is compared with what a reader gives.
use denote.Ref.{Bor}
use Rattle.std.specs.Prelude.{◌≡◌, ℕ, ◌-◌, true, cond, ◌⊎◌, IfErr, List, [], ◌∷◌, length, drop, codes as text, Some, None, Ok, Err, Option, Result, ◌==◌}
use Rattle.mojette.specs.declared.fault.Reason.{Reason}
use Rattle.mojette.specs.declared.fault.Reason.TheVariants as reasons
use Rattle.mojette.specs.declared.fault.TextFault.{TextFault}
use Rattle.mojette.specs.Faults.{reason_number}
use Rattle.format.specs.Readers.{Worth, good, bad, Parsed, done, fault, Reader}
use Rattle.samples.specs.Names.{mark, IsWord}
use Rattle.format.specs.Tokens.{token, after}
use Rattle.bracket.specs.declared.fault_in_text.FaultInText.{FaultInText}
use Rattle.bracket.specs.declared.lexer.Lexer.{Lexer}
use Rattle.bracket.specs.declared.lexer.Token.{Token}
use Rattle.bracket.specs.declared.lexer.Token.TheVariants as tokens

-- the bytes that are left
abbrev pub left : Lexer → List ℕ
left l = drop l.at l.text.now

-- the byte at which they begin
abbrev pub place : Lexer → ℕ
place l = length l.text.now - length (left l)

-- the token that a byte is by itself
abbrev pub mark_of : ℕ → Option Token
mark_of b =
    cond (b == 40) (Some tokens.Open)
    (cond (b == 41) (Some tokens.Close)
    (cond (b == 32) (Some tokens.Space)
    (cond (b == 10) (Some tokens.Newline) None)))

-- t is the first token of bs, which begins at a byte: a word has it
abbrev pub IsToken : ℕ → List ℕ → Token → Type 0
IsToken byte bs tokens.Open = token bs ≡ text "("
IsToken byte bs tokens.Close = token bs ≡ text ")"
IsToken byte bs tokens.Space = token bs ≡ text " "
IsToken byte bs tokens.Newline = token bs ≡ 10 ∷ []
IsToken byte bs tokens.End = token bs ≡ []
IsToken byte bs (tokens.Word w at) = (w.now ≡ token bs) × (at ≡ byte) × IsWord (token bs)

-- how many bytes a token has
abbrev pub token_len : Token → ℕ
token_len tokens.Open = 1
token_len tokens.Close = 1
token_len tokens.Space = 1
token_len tokens.Newline = 1
token_len tokens.End = 0
token_len (tokens.Word w at) = length w.now

-- what a word is worth, as a call that reads it answers, where it keeps something by which the value is found
abbrev pub worth_as : {A B : Type 0} → (A → B) → Result A Reason → Worth B
worth_as value (Ok a) = good (value a)
worth_as value (Err e) = bad (reason_number e)

abbrev pub worth_of : {A : Type 0} → Result A Reason → Worth A
worth_of r = worth_as (λ a. a) r

-- that answer, with the byte at which the word begins
abbrev pub at_byte : {A : Type 0} → ℕ → Result A Reason → Result A TextFault
at_byte byte (Ok a) = Ok a
at_byte byte (Err e) = Err (record { byte = byte; reason = e })

-- a result with the fault that it holds, without the text
abbrev pub fault_of : {A : Type 0} → Result A FaultInText → Result A TextFault
fault_of (Ok a) = Ok a
fault_of (Err e) = Err e.fault

-- a fault is told beside the text of the lexer
abbrev pub IsInText : {A : Type 0} → Lexer → Result A FaultInText → Type 0
IsInText l r = IfErr r (λ e. e.text.now ≡ l.text.now)

-- a token that is no word: a mark, or the end of input
abbrev pub NoWord : List ℕ → Type 0
NoWord t = (t ≡ []) ⊎ ((b : ℕ) × (mark b ≡ true) × (t ≡ b ∷ []))

-- what is answered at the first token of bs, which begins at a byte: a word with that byte, or that the token is wrong
abbrev pub IsWordAt : ℕ → List ℕ → Result (Bor (List ℕ) × ℕ) TextFault → Type 0
IsWordAt byte bs (Ok v) = (v.0.now ≡ token bs) × (v.1 ≡ byte) × IsWord (token bs)
IsWordAt byte bs (Err f) = NoWord (token bs) × (f ≡ record { byte = byte; reason = reasons.Token })

-- the lexer l becomes m by one token, which is to be a word
pub record TakesWord (l : Lexer) (r : Result (Bor (List ℕ) × ℕ) FaultInText) (m : Lexer) : Type 0 where
  pub is : IsWordAt (place l) (left l) (fault_of r)
  pub in_text : IsInText l r
  pub rest : left m ≡ after (left l)
  pub same : m.text.now ≡ l.text.now

-- by a word, of which `reads` says what the answer r may be, or by another token, which is wrong
pub record Takes {A : Type 0} (reads : List ℕ → Result A Reason → Type 0) (l : Lexer) (r : Result A FaultInText) (m : Lexer)
    : Type 0 where
  pub answers :
      ((a : Result A Reason) × reads (token (left l)) a × (fault_of r ≡ at_byte (place l) a))
      ⊎ (NoWord (token (left l)) × (fault_of r ≡ at_byte (place l) (Err reasons.Token)))
  pub in_text : IsInText l r
  pub rest : left m ≡ after (left l)
  pub same : m.text.now ≡ l.text.now

-- a result with what is then left of the text, as a reader gives them
abbrev pub parsed_as : {A B : Type 0} → (A → B) → Result A TextFault → List ℕ → Parsed B
parsed_as value (Ok a) bs = done (value a) bs
parsed_as value (Err f) bs = fault f.byte (reason_number f.reason)

-- the lexer l becomes m as the reader says, and r keeps something by which the value that the reader gives is found in
-- the text
pub record ReadsAs {A B : Type 0} (value : A → B) (f : ℕ → Reader B) (l : Lexer) (r : Result A FaultInText) (m : Lexer)
    : Type 0 where
  pub gives : f (length l.text.now) (left l) ≡ parsed_as value (fault_of r) (left m)
  pub in_text : IsInText l r
  pub same : m.text.now ≡ l.text.now

-- and r is what the reader gives
abbrev pub Reads : {A : Type 0} → (ℕ → Reader A) → Lexer → Result A FaultInText → Lexer → Type 0
Reads f l r m = ReadsAs (λ a. a) f l r m
