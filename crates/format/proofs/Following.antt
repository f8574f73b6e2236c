-- Which tokens may stand behind others, so that a text of both has them as its tokens.
use Rattle.std.proofs.Common.{◌≡◌, ℕ, zero, suc, ◌+◌, ◌≤◌, ◌<◌, Bool, true, false, cond, ◌⊎◌, List, [], ◌∷◌, ◌++◌, length, drop, sym, refl, ap, ◌∙◌, subst, append_assoc, append-nil, length-append, inl, inr, arith}
use Rattle.std.proofs.lemmas.Bool.{cond-true}
use Rattle.samples.specs.Names.{mark, Unmarked, IsWord}
use Rattle.format.specs.Tokens.{run, token, after}
use Rattle.format.specs.Wrong.{first_tokens, skip, bytes_of}
use Rattle.format.proofs.OfTokens.{Ends, token_word, after_word, token_split}

-- the tokens of ws and then the first m of bs, the nearest first
abbrev pub behind : ℕ → List (List ℕ) → List ℕ → List (List ℕ)
behind zero ws bs = ws
behind (suc m) ws bs = behind m (token bs ∷ ws) (after bs)

-- none of the tokens is empty
abbrev pub solid : List (List ℕ) → Bool
solid [] = true
solid ([] ∷ ws) = false
solid ((b ∷ bs) ∷ ws) = solid ws

-- the nearest token is a mark
abbrev pub marked : List (List ℕ) → Bool
marked [] = false
marked ([] ∷ ws) = false
marked ((b ∷ bs) ∷ ws) = mark b

-- The token v may stand behind the tokens ws.
pub record Fits (ws : List (List ℕ)) (v : List ℕ) : Type 0 where
  pub whole : token v ≡ v
  pub behind_solid : solid ws ≡ true
  pub apart : Ends v ⊎ (marked ws ≡ true)

-- a mark as a token
abbrev pub IsMark : List ℕ → Type 0
IsMark [] = ⊥
IsMark (b ∷ []) = mark b ≡ true
IsMark (b ∷ c ∷ bs) = ⊥

pub mark_fits : (t : List ℕ) (ws : List (List ℕ)) → IsMark t → solid ws ≡ true → Fits ws t
mark_fits [] ws m h = absurd m
mark_fits (b ∷ []) ws m h = record { whole = cond-true (mark b) (b ∷ []) (b ∷ []) m; behind_solid = h; apart = inl m }
mark_fits (b ∷ c ∷ bs) ws m h = absurd m

pub mark_some : (t : List ℕ) → IsMark t → 0 < length t
mark_some [] m = absurd m
mark_some (b ∷ bs) m = omega arith

pub word_fits : (w : List ℕ) (ws : List (List ℕ)) → IsWord w → solid ws ≡ true → marked ws ≡ true → Fits ws w
word_fits w ws i h m = record {
  whole = ap token (sym (append-nil w)) ∙ token_word w [] i tt;
  behind_solid = h;
  apart = inr m;
}

pub word_some : (w : List ℕ) → IsWord w → 0 < length w
word_some [] i = absurd i
word_some (b ∷ bs) i = omega arith

pub solid_more : (w : List ℕ) (ws : List (List ℕ)) → 0 < length w → solid ws ≡ true → solid (w ∷ ws) ≡ true
solid_more [] ws l h = absurd (omega arith)
solid_more (b ∷ bs) ws l h = h

pub length-after : (s : List ℕ) → length (token s) + length (after s) ≡ length s
length-after s = sym (length-append (token s) (after s)) ∙ ap length (token_split s)

pub shorter : (m : ℕ) (s : List ℕ) → length (skip m s) ≤ length s
shorter zero s = omega arith
shorter (suc m) s = omega (arith, shorter m (after s), length-after s)

solid_front : (n : ℕ) (ws : List (List ℕ)) (t : List ℕ) → solid (behind n ws t) ≡ true → solid ws ≡ true
solid_front zero ws t h = h
solid_front (suc n) ws t h = go (token t) (solid_front n (token t ∷ ws) (after t) h)
  where
    go : (w : List ℕ) → solid (w ∷ ws) ≡ true → solid ws ≡ true
    go [] e = let z : ◌≡◌ {A = ℕ} 0 1 = cc in absurd (omega arith)
    go (b ∷ bs) e = e

unmarked_run : (bs : List ℕ) → Unmarked (run bs)
unmarked_run [] = tt
unmarked_run (b ∷ bs) = go (mark b) refl (unmarked_run bs)
  where
    go : (m : Bool) → mark b ≡ m → Unmarked (run bs) → Unmarked (cond m [] (b ∷ run bs))
    go true e u = tt
    go false e u = (e, u)

-- behind a word no word goes on
ends_run : (bs : List ℕ) → Ends (drop (length (run bs)) bs)
ends_run [] = tt
ends_run (b ∷ bs) = go (mark b) refl (ends_run bs)
  where
    go : (m : Bool) → mark b ≡ m → Ends (drop (length (run bs)) bs) → Ends (drop (length (cond m [] (b ∷ run bs))) (b ∷ bs))
    go true e u = e
    go false e u = u

-- the same holds where just the first token of what follows is kept
ends_front : (r x : List ℕ) → Ends r → (token r ≡ [] → ⊥) → Ends (token r ++ x)
ends_front [] x e n = absurd (n refl)
ends_front (c ∷ r) x e n = go (mark c) e
  where
    go : (m : Bool) → m ≡ true → Ends (cond m (c ∷ []) (c ∷ run r) ++ x)
    go true h = e
    go false h = e

-- the bytes of the first n tokens
abbrev pub front : ℕ → List ℕ → List ℕ
front n t = bytes_of (first_tokens n t)

pub record Rejoined (n : ℕ) (t v s : List ℕ) : Type 0 where
  pub same : first_tokens n s ≡ first_tokens n t
  pub rest : skip n s ≡ v

filled : (n : ℕ) (w : List ℕ) (ws : List (List ℕ)) (r : List ℕ) → solid (behind n (w ∷ ws) r) ≡ true → (w ≡ [] → ⊥)
filled n w ws r h e = go w (solid_front n (w ∷ ws) r h) e
  where
    go : (w : List ℕ) → solid (w ∷ ws) ≡ true → w ≡ [] → ⊥
    go [] s e = let z : ◌≡◌ {A = ℕ} 0 1 = cc in omega arith
    go (b ∷ bs) s e = let z : ◌≡◌ {A = ℕ} 0 1 = cc in omega arith

pub record Split (w r : List ℕ) : Type 0 where
  pub first : token (w ++ r) ≡ w
  pub then : after (w ++ r) ≡ r

-- a first token is kept before what may follow it
split_there : (ws : List (List ℕ)) (t r : List ℕ) → (token t ≡ [] → ⊥) → Ends r ⊎ (marked (token t ∷ ws) ≡ true) → Split (token t) r
split_there ws [] r n a = absurd (n refl)
split_there ws (b ∷ bs) r n a = go (mark b) refl a
  where
    go : (m : Bool) → mark b ≡ m → Ends r ⊎ (marked (cond m (b ∷ []) (b ∷ run bs) ∷ ws) ≡ true) → Split (cond m (b ∷ []) (b ∷ run bs)) r
    go true e x =
        let f = cond-true (mark b) (b ∷ []) (b ∷ run r) e in record { first = f; then = ap (λ w. drop (length w) (b ∷ r)) f }
    go false e (inl x) =
        let i : IsWord (b ∷ run bs) = (e, unmarked_run bs) in
        record { first = token_word (b ∷ run bs) r i x; then = after_word (b ∷ run bs) r i x }
    go false e (inr x) = let z : ◌≡◌ {A = ℕ} 0 1 = cc in absurd (omega arith)

ends_after : (ws : List (List ℕ)) (t : List ℕ) → Ends (after t) ⊎ (marked (token t ∷ ws) ≡ true)
ends_after ws [] = inl tt
ends_after ws (b ∷ bs) = go (mark b) refl
  where
    go :
        (m : Bool) → mark b ≡ m
        → Ends (drop (length (cond m (b ∷ []) (b ∷ run bs))) (b ∷ bs)) ⊎ (marked (cond m (b ∷ []) (b ∷ run bs) ∷ ws) ≡ true)
    go true e = inr e
    go false e = inl (ends_run bs)

next_ends :
    (n : ℕ) (ws : List (List ℕ)) (t v : List ℕ) → solid (behind n (token t ∷ ws) (after t)) ≡ true
    → Ends v ⊎ (marked (behind n (token t ∷ ws) (after t)) ≡ true) → Ends (front n (after t) ++ v) ⊎ (marked (token t ∷ ws) ≡ true)
next_ends zero ws t v h a = a
next_ends (suc n) ws t v h a = go (ends_after ws t)
  where
    r : List ℕ
    r = after t

    go : Ends r ⊎ (marked (token t ∷ ws) ≡ true) → Ends ((token r ++ front n (after r)) ++ v) ⊎ (marked (token t ∷ ws) ≡ true)
    go (inl e) =
        inl (subst Ends (sym (append_assoc (token r) (front n (after r)) v))
        (ends_front r (front n (after r) ++ v) e (filled n (token r) (token t ∷ ws) (after r) h)))
    go (inr e) = inr e

-- A text of the first n tokens of t and then v has these tokens, and goes on with v.
pub rejoin :
    (n : ℕ) (ws : List (List ℕ)) (t v : List ℕ) → solid (behind n ws t) ≡ true → Ends v ⊎ (marked (behind n ws t) ≡ true)
    → Rejoined n t v (front n t ++ v)
rejoin zero ws t v h a = record { same = refl; rest = refl }
rejoin (suc n) ws t v h a =
    let i = rejoin n (token t ∷ ws) (after t) v h a in
    let r = front n (after t) ++ v in
    let k = split_there ws t r (filled n (token t) ws (after t) h) (next_ends n ws t v h a) in
    subst (Rejoined (suc n) t v) (sym (append_assoc (token t) (front n (after t)) v)) (record {
      same = λ j. k.first j ∷ (ap (first_tokens n) k.then ∙ i.same) j;
      rest = ap (skip n) k.then ∙ i.rest;
    })
