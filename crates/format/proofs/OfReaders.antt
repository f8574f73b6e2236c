-- What one step of a reader does to a written text, and what it tells of a text that was read.
use Rattle.std.proofs.Common.{◌≡◌, ℕ, Bool, true, false, cond, List, [], ◌∷◌, ◌++◌, sym, refl, ap, ◌∙◌, arith}
use Rattle.std.specs.Str.{bytes_eq}
use Rattle.std.proofs.lemmas.Slice.Eq.{bytes_eq-Decides}
use Rattle.std.proofs.lemmas.Bool.{cond-true}
use Rattle.format.specs.Readers.{Parsed, done, fault, Reader, then, Worth, good, bad, judged, accept, exactly, expect}
use Rattle.samples.specs.Names.{mark, IsWord}
use Rattle.format.specs.Tokens.{run, token, after}
use Rattle.format.proofs.OfTokens.{Ends, token_word, after_word, token_split}

-- Writing ---------------------------------------------------------------------------------------------------------

pub then_done :
    {A B : Type 0} {x : Parsed A} (f : A → Reader B) {a : A} {s : List ℕ} {y : Parsed B} → x ≡ done a s → f a s ≡ y → then x f ≡ y
then_done f e k = ap (λ x. then x f) e ∙ k

-- a written word is read as what it is worth
pub accept_word :
    {A : Type 0} (n : ℕ) (worth : List ℕ → Worth A) (a : A) (w r : List ℕ) → worth w ≡ good a → IsWord w → Ends r
    → accept n worth (w ++ r) ≡ done a r
accept_word n worth a w r e i s =
    ap (λ t. judged n (w ++ r) (worth t)) (token_word w r i s) ∙ ap (judged n (w ++ r)) e ∙ ap (done a) (after_word w r i s)

pub exactly_there : (t : List ℕ) → exactly t t ≡ good tt
exactly_there t = cond-true (bytes_eq t t) _ _ ((bytes_eq-Decides t t).1 refl)

-- Reading: each lemma hands on what the step took off the front of bs ----------------------------------------------

pub done_same : {A : Type 0} (a b : A) (s r : List ℕ) → done a s ≡ done b r → (a ≡ b) × (s ≡ r)
done_same a b s r h = (cc, cc)

then_same : {A : Type 0} (x : Parsed A) → then x done ≡ x
then_same (done a s) = refl
then_same (fault byte why) = refl

judged_back :
    {A B : Type 0} (n : ℕ) (bs : List ℕ) (f : A → Reader B) (v : Worth A) (b : B) (r : List ℕ) → then (judged n bs v) f ≡ done b r
    → (a : A) × (v ≡ good a) × (f a (after bs) ≡ done b r)
judged_back n bs f (good a) b r h = (a, refl, h)
judged_back n bs f (bad why) b r h = let z : ◌≡◌ {A = ℕ} 0 1 = cc in absurd (omega arith)

-- a word w, worth a
pub accept_back :
    {A B C : Type 0} (n : ℕ) (worth : List ℕ → Worth A) (f : A → Reader B) (bs : List ℕ) (b : B) (r : List ℕ)
    → then (accept n worth bs) f ≡ done b r
    → ((a : A) (w s : List ℕ) → bs ≡ w ++ s → worth w ≡ good a → f a s ≡ done b r → C) → C
accept_back n worth f bs b r h k =
    let j = judged_back n bs f (worth (token bs)) b r h in k j.0 (token bs) (after bs) (sym (token_split bs)) j.1 j.2

-- a word w, worth b, as the last step
pub last_back :
    {B C : Type 0} (n : ℕ) (worth : List ℕ → Worth B) (bs : List ℕ) (b : B) (r : List ℕ) → accept n worth bs ≡ done b r
    → ((w : List ℕ) → bs ≡ w ++ r → worth w ≡ good b → C) → C
last_back n worth bs b r h k =
    accept_back n worth done bs b r (then_same (accept n worth bs) ∙ h) λ a w s e g m.
    let same = done_same a b s r m in k w (e ∙ ap (λ l. w ++ l) same.1) (g ∙ ap good same.0)

pub exactly_back : (t w : List ℕ) (u : Unit {0}) → exactly t w ≡ good u → w ≡ t
exactly_back t w u h = (bytes_eq-Decides w t).0 (go (bytes_eq w t) h)
  where
    go : (m : Bool) → cond m (good tt) (bad 0) ≡ good u → m ≡ true
    go true e = refl
    go false e = let z : ◌≡◌ {A = ℕ} 0 1 = cc in absurd (omega arith)

-- the token t
pub expect_back :
    {B C : Type 0} (n : ℕ) (t : List ℕ) (f : Reader B) (bs : List ℕ) (b : B) (r : List ℕ)
    → then (expect n t bs) (λ _. f) ≡ done b r → ((s : List ℕ) → bs ≡ t ++ s → f s ≡ done b r → C) → C
expect_back n t f bs b r h k =
    accept_back n (exactly t) (λ _. f) bs b r h λ u w s e g m. k s (e ∙ ap (λ v. v ++ s) (exactly_back t w u g)) m

-- what another reader took
pub then_back :
    {A B C : Type 0} (x : Parsed A) (f : A → Reader B) (b : B) (r : List ℕ) → then x f ≡ done b r
    → ((a : A) (s : List ℕ) → x ≡ done a s → f a s ≡ done b r → C) → C
then_back (done a s) f b r h k = k a s refl h
then_back (fault byte why) f b r h k = let z : ◌≡◌ {A = ℕ} 0 1 = cc in absurd (omega arith)

-- the end of input
pub end_back :
    {B C : Type 0} (n : ℕ) (f : Reader B) (bs : List ℕ) (b : B) (r : List ℕ) → then (expect n [] bs) (λ _. f) ≡ done b r
    → (bs ≡ [] → f [] ≡ done b r → C) → C
end_back n f [] b r h k = k refl h
end_back n f (c ∷ bs) b r h k = absurd (go (mark c) h)
  where
    go : (m : Bool) → then (judged n (c ∷ bs) (exactly [] (cond m (c ∷ []) (c ∷ run bs)))) (λ _. f) ≡ done b r → ⊥
    go true e = let z : ◌≡◌ {A = ℕ} 0 1 = cc in omega arith
    go false e = let z : ◌≡◌ {A = ℕ} 0 1 = cc in omega arith
