-- What a refusal of a text tells.
use Rattle.std.proofs.Common.{◌≡◌, ◌≢◌, ℕ, zero, suc, ◌+◌, ◌-◌, true, List, [], ◌∷◌, ◌++◌, length, take, reverse, sym, refl, ap, ◌∙◌, subst₂, inl, inr, append_assoc, append-nil, length-append, arith}
use Rattle.std.proofs.lemmas.List.{take_at}
use Rattle.std.proofs.lemmas.Grind.{reverse_onto}
use Rattle.samples.specs.declared.coded.Coded.{Ghosts as Codes}
use Rattle.mojette.specs.Meaning.{Meaning}
use Rattle.format.specs.Format.{Read, file, refused, line_ends, told, file_reader, read_file}
use Rattle.format.specs.Readers.{fault}
use Rattle.format.specs.Reasons.{TellsReason}
use Rattle.format.specs.Tokens.{token, after}
use Rattle.format.specs.Wrong.{first_tokens, skip, bytes_of, WrongToken, TellsWrong}
use Rattle.format.proofs.OfTokens.{token_split}
use Rattle.format.proofs.Deciding.{head_same, tail_same, Otherwise, goes, halts, Decided, reads, stops}
use Rattle.format.proofs.Following.{behind, front, rejoin}
use Rattle.format.proofs.Refusing.{file_decides}
use Rattle.format.proofs.LineEnds.{lines_counted}

split : (n : ℕ) (t : List ℕ) → front n t ++ skip n t ≡ t
split zero t = refl
split (suc n) t = append_assoc (token t) (front n (after t)) (skip n (after t)) ∙ ap (λ r. token t ++ r) (split n (after t)) ∙ token_split t

size : (n : ℕ) (t : List ℕ) → length (front n t) + length (skip n t) ≡ length t
size n t = sym (length-append (front n t) (skip n t)) ∙ ap length (split n t)

begins : (n : ℕ) (t : List ℕ) → length t - length (skip n t) ≡ length (front n t)
begins n t = let s = size n t in omega arith

before : (n : ℕ) (t : List ℕ) → take (length (front n t)) t ≡ front n t
before n t = ap (take (length (front n t))) (sym (split n t)) ∙ take_at (front n t) (skip n t) (length (front n t)) refl

-- the tokens before a token, the nearest first
turned : (n : ℕ) (ws : List (List ℕ)) (t : List ℕ) → behind n ws t ≡ reverse (first_tokens n t) ++ ws
turned zero ws t = refl
turned (suc n) ws t =
    turned n (token t ∷ ws) (after t)
    ∙ sym (append_assoc (reverse (first_tokens n (after t))) (token t ∷ []) ws)
    ∙ ap (λ l. l ++ ws) (sym (reverse_onto (first_tokens n (after t)) (token t) []))

in_order : (n : ℕ) (t : List ℕ) → behind n [] t ≡ reverse (first_tokens n t)
in_order n t = turned n [] t ∙ append-nil (reverse (first_tokens n t))

fewer : (n : ℕ) (s t : List ℕ) → first_tokens (suc n) s ≡ first_tokens (suc n) t → first_tokens n s ≡ first_tokens n t
fewer zero s t e = refl
fewer (suc n) s t e =
    let h = head_same (token s) (token t) _ _ e in
    let k = fewer n (after s) (after t) (tail_same (token s) (token t) _ _ e) in
    λ i. h i ∷ k i

module _ {S : Type 0} where
  -- the refusal at the token behind n others
  abbrev at_token : ℕ → ℕ → List ℕ → Read S
  at_token why n t = refused (1 + line_ends (front n t)) (length (front n t)) why

  tells : (why n : ℕ) (t : List ℕ) → told {S = S} t (fault (length t - length (skip n t)) why) ≡ at_token why n t
  tells why n t =
      ap (λ b. refused (1 + line_ends (take b t)) b why) (begins n t)
      ∙ ap (λ w. refused (1 + line_ends w) (length (front n t)) why) (before n t)

  parts : (l b w l' b' w' : ℕ) → ◌≡◌ {A = Read S} (refused l b w) (refused l' b' w') → (l ≡ l') × (b ≡ b') × (w ≡ w')
  parts l b w l' b' w' e = (cc, cc, cc)

  never : (m : Meaning S) (l b w : ℕ) → file m ≡ refused l b w → ⊥
  never m l b w e = let z : ◌≡◌ {A = ℕ} 0 1 = cc in omega arith

module _ {S : Type 0} (C : Codes S) where
  pub tells_wrong : TellsWrong C
  tells_wrong t line byte why h = go (file_decides C t)
    where
      -- a text whose reader does not stop there for that reason is not refused so
      left_open :
          (y n : ℕ) (s : List ℕ) → byte ≡ length (front n s) → y ≡ why
          → Otherwise true (λ n. file_reader C n) (λ _ _. Unit {0}) [] n y s → read_file C s ≢ refused line byte why
      left_open y n s b w (goes a k p u d) e = never a line byte why (sym (ap (told s) (d (length s))) ∙ e)
      left_open y n s b w (halts z k p d) e =
          let q = parts _ _ _ _ _ _ (sym (ap (told s) (d (length s))) ∙ e) in
          let l = size n s in
          elim p [
            | inl a ↦ a.1 (q.2 ∙ sym w)
            | inr a ↦ omega (arith, q.1)
          ]

      go : Decided true (λ n. file_reader C n) (λ _ _. Unit {0}) [] t → WrongToken C t line byte why
      go (reads m j u k) = absurd (never m line byte why (sym (ap (told t) (k (length t) t refl)) ∙ h))
      go (stops y n r k v fits o) =
          let at = λ (s : List ℕ) (e : first_tokens (suc n) s ≡ first_tokens (suc n) t). ap (told s) (k (length s) s e) ∙ tells y n s in
          let own : read_file C t ≡ at_token y n t = at t refl in
          let p = parts _ _ _ _ _ _ (sym own ∙ h) in
          let s = size n t in
          let x = front n t ++ v in
          let i = rejoin n [] t v fits.behind_solid fits.apart in
          record {
            others = n;
            begins = sym p.1;
            inside = omega (arith, p.1);
            line_is = sym p.0 ∙ ap (λ c. 1 + c) (lines_counted (front n t));
            reason = subst₂ (λ ws v. TellsReason ws (token (skip n t)) v) (in_order n t) p.2 r;
            decides = λ s e. at s e ∙ ap (λ w. refused (1 + line_ends (bytes_of w)) (length (bytes_of w)) y) (fewer n s t e) ∙ sym own ∙ h;
            other = x;
            same_before = i.same;
            needed = left_open y n x (sym p.1 ∙ ap (λ w. length (bytes_of w)) (sym i.same)) p.2 (o x i.same (ap token i.rest ∙ fits.whole));
          }
