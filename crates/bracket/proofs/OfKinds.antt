-- A text that names no kind: the readers of all kinds stop at the same token.
use Rattle.std.proofs.Common.{◌≡◌, ℕ, ◌+◌, ◌-◌, Bool, true, false, cond, List, take, length, Some, None, codes as text, refl, ap, ◌∙◌, arith}
use Rattle.std.specs.Str.{bytes_eq}
use Rattle.std.proofs.lemmas.Slice.Eq.{bytes_eq-Decides}
use Rattle.samples.specs.declared.coded.Coded.{Ghosts as Codes}
use Rattle.samples.specs.contracts.codes.PairSumWordXorWordCoded.TheImpl.{ghosts as pair_codes}
use Rattle.samples.specs.contracts.codes.SumWordCoded.TheImpl.{ghosts as sum_codes}
use Rattle.samples.specs.contracts.codes.XorWordCoded.TheImpl.{ghosts as xor_codes}
use Rattle.mojette.specs.Bounds.{most_places}
use Rattle.mojette.specs.Meaning.{Meaning}
use Rattle.format.specs.Format.{there, head_reader, places_reader, file, line_ends, told, read_file, refused}
use Rattle.format.specs.Readers.{Parsed, done, fault, Reader, then, Worth, good, bad, judged, accept, expect}
use Rattle.format.specs.Tokens.{token}
use Rattle.bracket.specs.declared.kind_name.KindName.{KindName}
use Rattle.bracket.specs.declared.kind_name.KindName.TheVariants.{Sum, Xor, Pair as Pairs}
use Rattle.bracket.specs.Kinds.{kind_with, kind_word, value_of, kind_named, Named, Unread}

-- the same fault for the name of every kind
record SameFault {A : Type 0} (f : List ℕ → Parsed A) : Type 0 where
  pub byte : ℕ
  pub why : ℕ
  pub sum : f sum_codes.name ≡ fault byte why
  pub xor : f xor_codes.name ≡ fault byte why
  pub pair : f pair_codes.name ≡ fault byte why

-- by a step that does not depend on the name
step :
    {A B C : Type 0} (x : Parsed A) (k : Reader B) (f : List ℕ → Reader C)
    → ((s : List ℕ) → value_of (k s) ≡ None → SameFault (λ name. f name s))
    → value_of (then x (λ _. k)) ≡ None → SameFault (λ name. then x (λ _. f name))
step (done a s) k f h e = h s e
step (fault byte why) k f h e = record { byte = byte; why = why; sum = refl; xor = refl; pair = refl }

-- what an expected name gives, where it is there or not
abbrev after_name : {C : Type 0} → ℕ → List ℕ → Reader C → Bool → Parsed C
after_name n s f b = then (judged n s (cond {A = Worth (Unit {0})} b (good tt) (bad 0))) (λ _. f)

at_name :
    {C : Type 0} (n : ℕ) (f : List ℕ → Reader C) (s : List ℕ) → value_of (accept n kind_word s) ≡ None
    → SameFault (λ name. then (expect n name s) (λ _. f name))
at_name {C} n f s e =
    let p = go (bytes_eq (token s) sum_codes.name) (bytes_eq (token s) xor_codes.name) (bytes_eq (token s) pair_codes.name) e in
    record { byte = n - length s; why = 0; sum = p.0; xor = p.1; pair = p.2 }
  where
    go :
        (a b c : Bool) → value_of (judged n s (there (cond a (Some Sum) (cond b (Some Xor) (cond c (Some Pairs) None))))) ≡ None
        → (after_name n s (f sum_codes.name) a ≡ fault (n - length s) 0) × (after_name n s (f xor_codes.name) b ≡ fault (n - length s) 0)
        × (after_name n s (f pair_codes.name) c ≡ fault (n - length s) 0)
    go true b c e = let z : ◌≡◌ {A = ℕ} 0 1 = cc in absurd (omega arith)
    go false true c e = let z : ◌≡◌ {A = ℕ} 0 1 = cc in absurd (omega arith)
    go false false true e = let z : ◌≡◌ {A = ℕ} 0 1 = cc in absurd (omega arith)
    go false false false e = (refl, refl, refl)

stops_alike : (t : List ℕ) → kind_named t ≡ None → SameFault (λ name. head_reader name (length t) t)
stops_alike t e =
    let n = length t in
    step (expect n (text "(") t) _ _
    (λ s1. step (expect n (text "tile") s1) _ _
    (λ s2. step (expect n (text " ") s2) _ _
    (λ s3. at_name n _ s3))) e

-- a step that is passed by what is read, and by the kind's reader before the name
passed :
    {A B C : Type 0} (x : Parsed A) (k : Reader B) (f : Reader C) (b : B) (v : C) (r : List ℕ) → then x (λ _. f) ≡ done v r
    → ((s : List ℕ) → f s ≡ done v r → value_of (k s) ≡ Some b) → value_of (then x (λ _. k)) ≡ Some b
passed (done a s) k f b v r h g = g s h
passed (fault byte why) k f b v r h g = let z : ◌≡◌ {A = ℕ} 0 1 = cc in absurd (omega arith)

named_here :
    {C : Type 0} (name : List ℕ) (kind : KindName) → kind_with name ≡ Some kind → (n : ℕ) (f : Reader C) (s : List ℕ) (v : C) (r : List ℕ)
    → then (expect n name s) (λ _. f) ≡ done v r → value_of (accept n kind_word s) ≡ Some kind
named_here name kind same n f s v r h = go (bytes_eq (token s) name) refl h
  where
    go :
        (b : Bool) → bytes_eq (token s) name ≡ b → after_name n s f b ≡ done v r
        → value_of (judged n s (kind_word (token s))) ≡ Some kind
    go true e h =
        ap (λ w. value_of (judged n s (kind_word w))) ((bytes_eq-Decides (token s) name).0 e)
        ∙ ap (λ o. value_of (judged n s (there o))) same
    go false e h = let z : ◌≡◌ {A = ℕ} 0 1 = cc in absurd (omega arith)

module _ {S : Type 0} (C : Codes S) (t : List ℕ) where
  abbrev after_head : ℕ × ℕ → Reader (Meaning S)
  after_head v s = then (places_reader C (length t) v.0 v.1 None most_places s) (λ xs. done (record { P = v.0; Q = v.1; places = xs }))

  refused_by : (byte why : ℕ) → head_reader C.name (length t) t ≡ fault byte why → read_file C t ≡ refused (1 + line_ends (take byte t)) byte why
  refused_by byte why h = ap (λ x. told t (then x after_head)) h

  head_done : (m : Meaning S) (x : Parsed (ℕ × ℕ)) → told t (then x after_head) ≡ file m → (v : ℕ × ℕ) × (s : List ℕ) × (x ≡ done v s)
  head_done m (done v s) h = (v, s, refl)
  head_done m (fault byte why) h = let z : ◌≡◌ {A = ℕ} 0 1 = cc in absurd (omega arith)

  names : (kind : KindName) → kind_with C.name ≡ Some kind → (m : Meaning S) → read_file C t ≡ file m → kind_named t ≡ Some kind
  names kind same m h =
      let n = length t in
      let d = head_done m (head_reader C.name n t) h in
      passed (expect n (text "(") t) _ _ kind d.0 d.1 d.2 λ s1 h1.
      passed (expect n (text "tile") s1) _ _ kind d.0 d.1 h1 λ s2 h2.
      passed (expect n (text " ") s2) _ _ kind d.0 d.1 h2 λ s3 h3.
      named_here C.name kind same n _ s3 d.0 d.1 h3

pub named : (t : List ℕ) → Named t (kind_named t)
named t = record {
  as_sums = names sum_codes t Sum refl;
  as_xors = names xor_codes t Xor refl;
  as_pairs = names pair_codes t Pairs refl;
}

pub unread : (t : List ℕ) → kind_named t ≡ None → Unread t
unread t e =
    let p = stops_alike t e in
    record {
      line = 1 + line_ends (take p.byte t);
      byte = p.byte;
      why = p.why;
      as_sums = refused_by sum_codes t p.byte p.why p.sum;
      as_xors = refused_by xor_codes t p.byte p.why p.xor;
      as_pairs = refused_by pair_codes t p.byte p.why p.pair;
    }
