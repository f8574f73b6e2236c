-- How a reader goes by the tokens that it reads, and by nothing behind them, and tells the reason of the token where it stops.
use Rattle.std.proofs.Common.{◌≡◌, ◌≢◌, ℕ, zero, suc, ◌-◌, ◌<◌, Bool, true, false, ◌⊎◌, List, [], ◌∷◌, length, sym, refl, ap, ◌∙◌, subst, inl, inr, arith}
use Rattle.format.specs.Readers.{done, fault, Reader, then, yield, Worth, good, bad, judged, accept, exactly, expect}
use Rattle.format.specs.Reasons.{elsewhere, spot, TellsReason}
use Rattle.format.specs.Tokens.{token, after}
use Rattle.format.specs.Wrong.{first_tokens, skip}
use Rattle.format.proofs.Following.{behind, Fits, length-after, shorter}
use Rattle.format.proofs.OfReaders.{exactly_there, exactly_back}
use Rattle.format.proofs.OfReasons.{Reasoned, token_reasoned}

abbrev plus : ℕ → ℕ → ℕ
plus zero n = n
plus (suc m) n = suc (plus m n)

plus_suc : (m n : ℕ) → plus m (suc n) ≡ suc (plus m n)
plus_suc zero n = refl
plus_suc (suc m) n = ap suc (plus_suc m n)

skip_plus : (m n : ℕ) (bs : List ℕ) → skip (plus m n) bs ≡ skip n (skip m bs)
skip_plus zero n bs = refl
skip_plus (suc m) n bs = skip_plus m n (after bs)

pub head_same : (a b : List ℕ) (v w : List (List ℕ)) → a ∷ v ≡ b ∷ w → a ≡ b
head_same a b v w e = cc

pub tail_same : (a b : List ℕ) (v w : List (List ℕ)) → a ∷ v ≡ b ∷ w → v ≡ w
tail_same a b v w e = cc

-- the same tokens, and the first of them, and those behind
front_same :
    (m n : ℕ) (s bs : List ℕ) → first_tokens (plus m n) s ≡ first_tokens (plus m n) bs → first_tokens m s ≡ first_tokens m bs
front_same zero n s bs e = refl
front_same (suc m) n s bs e =
    let h = head_same (token s) (token bs) _ _ e in
    let k = front_same m n (after s) (after bs) (tail_same (token s) (token bs) _ _ e) in
    λ i. h i ∷ k i

rest_same :
    (m n : ℕ) (s bs : List ℕ) → first_tokens (plus m n) s ≡ first_tokens (plus m n) bs
    → first_tokens n (skip m s) ≡ first_tokens n (skip m bs)
rest_same zero n s bs e = e
rest_same (suc m) n s bs e = rest_same m n (after s) (after bs) (tail_same (token s) (token bs) _ _ e)

behind_plus : (m n : ℕ) (ws : List (List ℕ)) (bs : List ℕ) → behind (plus m n) ws bs ≡ behind n (behind m ws bs) (skip m bs)
behind_plus zero n ws bs = refl
behind_plus (suc m) n ws bs = behind_plus m n (token bs ∷ ws) (after bs)

behind_same : (m : ℕ) (ws : List (List ℕ)) (s bs : List ℕ) → first_tokens m s ≡ first_tokens m bs → behind m ws s ≡ behind m ws bs
behind_same zero ws s bs e = refl
behind_same (suc m) ws s bs e =
    ap (λ w. behind m (w ∷ ws) (after s)) (head_same (token s) (token bs) _ _ e)
    ∙ behind_same m (token bs ∷ ws) (after s) (after bs) (tail_same (token s) (token bs) _ _ e)

-- what holds of a value that was read, and of all tokens before what follows it, the nearest first
abbrev pub Fact : Type 0 → Type 1
Fact A = A → List (List ℕ) → Type 0

-- A reader of a text s does not stop at the token behind m others for the reason why: it gets past it, to the end of the text at the
-- most where `last` holds, or stops there for another reason.
pub data Otherwise {A : Type 0} (last : Bool) (f : ℕ → Reader A) (Next : Fact A) (ws : List (List ℕ)) (m why : ℕ) (s : List ℕ) : Type 0 where
  goes :
      (a : A) (k : ℕ) → (last ≡ true) ⊎ (length (skip k s) < length (skip m s)) → Next a (behind k ws s)
      → ((n : ℕ) → f n s ≡ done a (skip k s)) → Otherwise last f Next ws m why s
  halts :
      (y k : ℕ) → ((k ≡ m) × (y ≢ why)) ⊎ (length (skip k s) < length (skip m s))
      → ((n : ℕ) → f n s ≡ fault (n - length (skip k s)) y) → Otherwise last f Next ws m why s

-- A reader of a text of any length n gives a value after so many tokens of bs, and of whatever has the same; or it stops behind so
-- many tokens, by the next. Where bs stands behind the tokens ws, Next holds of what was read, and the reason told is that of the
-- token where it stops; and there is a token v with which it would not stop there for that reason.
pub data Decided {A : Type 0} (last : Bool) (f : ℕ → Reader A) (Next : Fact A) (ws : List (List ℕ)) (bs : List ℕ) : Type 0 where
  reads :
      (a : A) (m : ℕ) → Next a (behind m ws bs)
      → ((n : ℕ) (s : List ℕ) → first_tokens m s ≡ first_tokens m bs → f n s ≡ done a (skip m s)) → Decided last f Next ws bs
  stops :
      (why m : ℕ) → TellsReason (behind m ws bs) (token (skip m bs)) why
      → ((n : ℕ) (s : List ℕ) → first_tokens (suc m) s ≡ first_tokens (suc m) bs → f n s ≡ fault (n - length (skip m s)) why)
      → (v : List ℕ) → Fits (behind m ws bs) v
      → ((s : List ℕ) → first_tokens m s ≡ first_tokens m bs → token (skip m s) ≡ v → Otherwise last f Next ws m why s)
      → Decided last f Next ws bs

pub yields :
    {A : Type 0} {Next : Fact A} {last : Bool} (a : A) (ws : List (List ℕ)) (bs : List ℕ) → Next a ws
    → Decided last (λ n. yield a) Next ws bs
yields a ws bs h = reads a 0 h (λ n s e. refl)

-- what one token w is worth, behind the tokens ws
pub record Accepted {A : Type 0} (worth : List ℕ → Worth A) (ws : List (List ℕ)) (a : A) (vs : List (List ℕ)) : Type 0 where
  pub w : List ℕ
  pub worth_is : worth w ≡ good a
  pub is : vs ≡ w ∷ ws

-- Another token that may stand behind ws, and is not wrong for the reason why.
pub record Another {A : Type 0} (last : Bool) (worth : List ℕ → Worth A) (ws : List (List ℕ)) (why : ℕ) : Type 0 where
  pub v : List ℕ
  pub fits : Fits ws v
  pub some : (last ≡ true) ⊎ (0 < length v)
  pub worth_is : ((a : A) × (worth v ≡ good a)) ⊎ ((y : ℕ) × (worth v ≡ bad y) × (y ≢ why))

-- whatever a token is wrong for, there is another
abbrev pub Others : {A : Type 0} → Bool → (List ℕ → Worth A) → List (List ℕ) → Type 0
Others last worth ws = (w : List ℕ) (why : ℕ) → worth w ≡ bad why → Another last worth ws why

-- a token that is right
pub right :
    {A : Type 0} (worth : List ℕ → Worth A) (ws : List (List ℕ)) (v : List ℕ) (a : A) → worth v ≡ good a → Fits ws v → 0 < length v
    → Others false worth ws
right worth ws v a h f l w why k = record { v = v; fits = f; some = inr l; worth_is = inl (a, h) }

pub accepts :
    {A : Type 0} {last : Bool} (worth : List ℕ → Worth A) (ws : List (List ℕ)) (bs : List ℕ) → Reasoned worth ws → Others last worth ws
    → Decided last (λ n. accept n worth) (Accepted worth ws) ws bs
accepts {A} {last} worth ws bs tells others = go (worth (token bs)) refl
  where
    same :
        (n : ℕ) (v : Worth A) → worth (token bs) ≡ v → (s : List ℕ) → first_tokens 1 s ≡ first_tokens 1 bs
        → accept n worth s ≡ judged n s v
    same n v w s e = ap (λ t. judged n s (worth t)) (head_same (token s) (token bs) [] [] e) ∙ ap (judged n s) w

    other :
        (why : ℕ) (x : Another last worth ws why) (s : List ℕ) → token s ≡ x.v
        → Otherwise last (λ n. accept n worth) (Accepted worth ws) ws 0 why s
    other why x s e = pick x.worth_is
      where
        further : (last ≡ true) ⊎ (0 < length x.v) → (last ≡ true) ⊎ (length (after s) < length s)
        further (inl h) = inl h
        further (inr h) = inr (omega (arith, length-after s, ap length e))

        pick :
            ((a : A) × (worth x.v ≡ good a)) ⊎ ((y : ℕ) × (worth x.v ≡ bad y) × (y ≢ why))
            → Otherwise last (λ n. accept n worth) (Accepted worth ws) ws 0 why s
        pick (inl h) =
            let k = ap worth e ∙ h.1 in
            goes h.0 1 (further x.some) (record { w = token s; worth_is = k; is = refl }) (λ n. ap (judged n s) k)
        pick (inr h) = halts h.0 0 (inl (refl, h.2)) (λ n. ap (judged n s) (ap worth e ∙ h.1))

    go : (v : Worth A) → worth (token bs) ≡ v → Decided last (λ n. accept n worth) (Accepted worth ws) ws bs
    go (good a) w = reads a 1 (record { w = token bs; worth_is = w; is = refl }) (λ n s e. same n (good a) w s e)
    go (bad why) w =
        let x = others (token bs) why w in
        stops why 0 (tells (token bs) why w) (λ n s e. same n (bad why) w s e) x.v x.fits (λ s e k. other why x s k)

-- a reader that does not end a text, then the rest
pub binds :
    {A B : Type 0} {last : Bool} {f : ℕ → Reader A} {g : A → ℕ → Reader B} {Mid : Fact A} {Next : Fact B} {ws : List (List ℕ)}
    {bs : List ℕ} → Decided false f Mid ws bs → ((a : A) (vs : List (List ℕ)) (r : List ℕ) → Mid a vs → Decided last (g a) Next vs r)
    → Decided last (λ n s. then (f n s) (λ a. g a n)) Next ws bs
binds {A} {B} {last} {f} {g} {Mid} {Next} {ws} {bs} (stops why m t k v fits o) next =
    stops why m t (λ n s e. ap (λ x. then x (λ a. g a n)) (k n s e)) v fits (λ s e i. go s (o s e i))
  where
    go : (s : List ℕ) → Otherwise false f Mid ws m why s → Otherwise last (λ n s. then (f n s) (λ a. g a n)) Next ws m why s
    go s (halts y j p d) = halts y j p (λ n. ap (λ x. then x (λ a. g a n)) (d n))
    go s (goes a j (inl p) h d) = let z : ◌≡◌ {A = ℕ} 0 1 = cc in absurd (omega arith)
    go s (goes a j (inr p) h d) = on (next a (behind j ws s) (skip j s) h)
      where
        on : Decided last (g a) Next (behind j ws s) (skip j s) → Otherwise last (λ n s. then (f n s) (λ a. g a n)) Next ws m why s
        on (reads b i q c) =
            let l = ap length (skip_plus j i s) in
            goes b (plus j i) (inr (omega (arith, shorter i (skip j s)))) (subst (Next b) (sym (behind_plus j i ws s)) q)
            (λ n. ap (λ x. then x (λ a. g a n)) (d n) ∙ c n (skip j s) refl ∙ ap (done b) (sym (skip_plus j i s)))
        on (stops y i q c u fit x) =
            let l = ap length (skip_plus j i s) in
            halts y (plus j i) (inr (omega (arith, shorter i (skip j s))))
            (λ n. ap (λ x. then x (λ a. g a n)) (d n) ∙ c n (skip j s) refl ∙ ap (λ r. fault (n - length r) y) (sym (skip_plus j i s)))
binds {A} {B} {last} {f} {g} {Mid} {Next} {ws} {bs} (reads a m h k) next = go (next a (behind m ws bs) (skip m bs) h)
  where
    go : Decided last (g a) Next (behind m ws bs) (skip m bs) → Decided last (λ n s. then (f n s) (λ a. g a n)) Next ws bs
    go (reads b i t l) =
        reads b (plus m i) (subst (Next b) (sym (behind_plus m i ws bs)) t) (λ n s e.
        ap (λ x. then x (λ a. g a n)) (k n s (front_same m i s bs e))
        ∙ l n (skip m s) (rest_same m i s bs e)
        ∙ ap (done b) (sym (skip_plus m i s)))
    go (stops why i t l v fits o) =
        stops why (plus m i)
        (subst (λ v. TellsReason v (token (skip (plus m i) bs)) why) (sym (behind_plus m i ws bs))
        (subst (λ r. TellsReason (behind i (behind m ws bs) (skip m bs)) (token r) why) (sym (skip_plus m i bs)) t))
        (λ n s e.
        let e' : first_tokens (plus m (suc i)) s ≡ first_tokens (plus m (suc i)) bs =
        subst (λ j. first_tokens j s ≡ first_tokens j bs) (sym (plus_suc m i)) e in
        ap (λ x. then x (λ a. g a n)) (k n s (front_same m (suc i) s bs e'))
        ∙ l n (skip m s) (rest_same m (suc i) s bs e')
        ∙ ap (λ r. fault (n - length r) why) (sym (skip_plus m i s)))
        v (subst (λ u. Fits u v) (sym (behind_plus m i ws bs)) fits)
        (λ s e w. on s (front_same m i s bs e) (o (skip m s) (rest_same m i s bs e) (ap token (sym (skip_plus m i s)) ∙ w)))
      where
        on :
            (s : List ℕ) → first_tokens m s ≡ first_tokens m bs → Otherwise last (g a) Next (behind m ws bs) i why (skip m s)
            → Otherwise last (λ n s. then (f n s) (λ a. g a n)) Next ws (plus m i) why s
        on s e (goes b j p q d) =
            goes b (plus m j) (further p)
            (subst (Next b) (sym (behind_plus m j ws s ∙ ap (λ u. behind j u (skip m s)) (behind_same m ws s bs e))) q)
            (λ n. ap (λ x. then x (λ a. g a n)) (k n s e) ∙ d n ∙ ap (done b) (sym (skip_plus m j s)))
          where
            further :
                (last ≡ true) ⊎ (length (skip j (skip m s)) < length (skip i (skip m s)))
                → (last ≡ true) ⊎ (length (skip (plus m j) s) < length (skip (plus m i) s))
            further (inl h) = inl h
            further (inr h) = inr (omega (arith, ap length (skip_plus m j s), ap length (skip_plus m i s)))
        on s e (halts y j p d) =
            halts y (plus m j) (further p)
            (λ n. ap (λ x. then x (λ a. g a n)) (k n s e) ∙ d n ∙ ap (λ r. fault (n - length r) y) (sym (skip_plus m j s)))
          where
            further :
                ((j ≡ i) × (y ≢ why)) ⊎ (length (skip j (skip m s)) < length (skip i (skip m s)))
                → ((plus m j ≡ plus m i) × (y ≢ why)) ⊎ (length (skip (plus m j) s) < length (skip (plus m i) s))
            further (inl h) = inl (ap (plus m) h.0, h.1)
            further (inr h) = inr (omega (arith, ap length (skip_plus m j s), ap length (skip_plus m i s)))

-- what is made of a value at the end
pub maps :
    {A B : Type 0} {last : Bool} {f : ℕ → Reader A} {Mid : Fact A} {Next : Fact B} {ws : List (List ℕ)} {bs : List ℕ} (h : A → B)
    → Decided last f Mid ws bs → ((a : A) (vs : List (List ℕ)) → Mid a vs → Next (h a) vs)
    → Decided last (λ n s. then (f n s) (λ a. yield (h a))) Next ws bs
maps {A} {B} {last} {f} {Mid} {Next} {ws} {bs} h (reads a m q k) next =
    reads (h a) m (next a (behind m ws bs) q) (λ n s e. ap (λ x. then x (λ a. yield (h a))) (k n s e))
maps {A} {B} {last} {f} {Mid} {Next} {ws} {bs} h (stops why m t k v fits o) next =
    stops why m t (λ n s e. ap (λ x. then x (λ a. yield (h a))) (k n s e)) v fits (λ s e i. go s (o s e i))
  where
    go : (s : List ℕ) → Otherwise last f Mid ws m why s → Otherwise last (λ n s. then (f n s) (λ a. yield (h a))) Next ws m why s
    go s (goes a j p q d) = goes (h a) j p (next a (behind j ws s) q) (λ n. ap (λ x. then x (λ a. yield (h a))) (d n))
    go s (halts y j p d) = halts y j p (λ n. ap (λ x. then x (λ a. yield (h a))) (d n))

-- one token, then the rest
pub accept_then :
    {A B : Type 0} {last : Bool} {g : A → ℕ → Reader B} {Next : Fact B} {bs : List ℕ} (worth : List ℕ → Worth A) (ws : List (List ℕ))
    → Reasoned worth ws → Others false worth ws → ((a : A) (w r : List ℕ) → worth w ≡ good a → Decided last (g a) Next (w ∷ ws) r)
    → Decided last (λ n s. then (accept n worth s) (λ a. g a n)) Next ws bs
accept_then {A} {B} {last} {g} {Next} {bs} worth ws tells others next =
    binds (accepts worth ws bs tells others) (λ a vs r h. subst (λ v. Decided last (g a) Next v r) (sym h.is) (next a h.w r h.worth_is))

-- the token t, then the rest
pub expect_then :
    {B : Type 0} {last : Bool} {g : ℕ → Reader B} {Next : Fact B} {bs : List ℕ} (t : List ℕ) (ws : List (List ℕ)) → spot ws ≡ elsewhere
    → Fits ws t → 0 < length t → ((r : List ℕ) → Decided last g Next (t ∷ ws) r)
    → Decided last (λ n s. then (expect n t s) (λ _. g n)) Next ws bs
expect_then {B} {last} {g} {Next} {bs} t ws here fits some next =
    accept_then {g = λ _. g} (exactly t) ws (token_reasoned ws t here) (right (exactly t) ws t tt (exactly_there t) fits some)
    (λ a w r h. subst (λ v. Decided last g Next (v ∷ ws) r) (sym (exactly_back t w a h)) (next r))

-- one token as the last that is read here
pub accept_last :
    {A : Type 0} {Next : Fact A} {bs : List ℕ} (worth : List ℕ → Worth A) (ws : List (List ℕ)) → Reasoned worth ws
    → Others false worth ws → ((a : A) (w : List ℕ) → worth w ≡ good a → Next a (w ∷ ws)) → Decided false (λ n. accept n worth) Next ws bs
accept_last {A} {Next} {bs} worth ws tells others next = go (accepts worth ws bs tells others)
  where
    go : Decided false (λ n. accept n worth) (Accepted worth ws) ws bs → Decided false (λ n. accept n worth) Next ws bs
    go (reads a m h k) = reads a m (subst (Next a) (sym h.is) (next a h.w h.worth_is)) k
    go (stops why m t k v fits o) = stops why m t k v fits (λ s e i. on s (o s e i))
      where
        on :
            (s : List ℕ) → Otherwise false (λ n. accept n worth) (Accepted worth ws) ws m why s
            → Otherwise false (λ n. accept n worth) Next ws m why s
        on s (goes a j p q d) = goes a j p (subst (Next a) (sym q.is) (next a q.w q.worth_is)) d
        on s (halts y j p d) = halts y j p d
