-- The sums of the bins, and the values of the pixels found.
use Rattle.std.proofs.Common.{◌≡◌, ℕ, ◌<◌, ◌≤◌, Bool, true, false, cond, not, ◌&&◌, List, ◌∷◌, length, get_or, set, sym, refl, ap, ◌∙◌, ⊎_elim, arith}
use Rattle.std.proofs.lemmas.List.{get_or-set_same, get_or-set_other}
use Rattle.std.proofs.lemmas.Bool.{cases_eq, cases_Bool, and_right}
use Rattle.samples.specs.declared.kind.Kind.{Ghosts as Operations}
use Rattle.samples.specs.Sums.{sum_below}
use Rattle.peeling.specs.Incidence.{Incidence, Agrees, bin_sum, loaded}
use Rattle.peeling.specs.History.{History, settled, missing}
use Rattle.samples.proofs.Sums.{sum_same, sum_zero}
use Rattle.peeling.proofs.Sums.{drop_right, sum_more}
use Rattle.peeling.proofs.Histories.{Solo}

module _ {A : Type 0} (K : Operations A) (I : Incidence) where
  -- what pixel c adds to bin b, where it is found
  abbrev pub share : History → List A → ℕ → ℕ → A
  share h pic b c = cond (I.lies c b && not (missing I h c)) (get_or pic c K.zero) K.zero

  -- the sum of the pixels found in bin b
  abbrev pub found_sum : History → List A → ℕ → A
  found_sum h pic b = sum_below K I.pixels (share h pic b)

  share_same : (h k : History) (p q : List A) (b c : ℕ) → missing I h c ≡ missing I k c → get_or p c K.zero ≡ get_or q c K.zero → share h p b c ≡ share k q b c
  share_same h k p q b c m e = ap (λ x. cond (I.lies c b && not x) (get_or p c K.zero) K.zero) m ∙ ap (λ x. cond (I.lies c b && not (missing I k c)) x K.zero) e

  share_missing : (h : History) (p : List A) (b c : ℕ) → missing I h c ≡ true → share h p b c ≡ K.zero
  share_missing h p b c m = ap (λ x. cond (I.lies c b && not x) (get_or p c K.zero) K.zero) m
      ∙ ap (λ x. cond x (get_or p c K.zero) K.zero) (and_right (I.lies c b) false refl)

  share_found : (h : History) (p : List A) (b c : ℕ) → missing I h c ≡ false → share h p b c ≡ cond (I.lies c b) (get_or p c K.zero) K.zero
  share_found h p b c m = ap (λ x. cond (I.lies c b && not x) (get_or p c K.zero) K.zero) m ∙ go (I.lies c b)
    where
      go : (t : Bool) → cond (t && true) (get_or p c K.zero) K.zero ≡ cond t (get_or p c K.zero) K.zero
      go true = refl
      go false = refl

  share_elsewhere : (h : History) (p : List A) (b c : ℕ) → I.lies c b ≡ false → share h p b c ≡ K.zero
  share_elsewhere h p b c e = ap (λ x. cond (x && not (missing I h c)) (get_or p c K.zero) K.zero) e

  pub found_sum_same : (h k : History) (p q : List A) (b : ℕ) → ((c : ℕ) → c < I.pixels → missing I h c ≡ missing I k c) →
      ((c : ℕ) → c < I.pixels → get_or p c K.zero ≡ get_or q c K.zero) → found_sum h p b ≡ found_sum k q b
  found_sum_same h k p q b m e = sum_same K I.pixels (share h p b) (share k q b) (λ c l. share_same h k p q b c (m c l) (e c l))

  -- nothing is found yet
  pub found_sum_none : (h : History) (p : List A) (b : ℕ) → ((c : ℕ) → c < I.pixels → missing I h c ≡ true) → found_sum h p b ≡ K.zero
  found_sum_none h p b m = sum_zero K I.pixels (share h p b) (λ c l. share_missing h p b c (m c l))

  -- all is found
  pub found_sum_all : (h : History) (p t : List A) (b : ℕ) → ((c : ℕ) → c < I.pixels → missing I h c ≡ false) →
      ((c : ℕ) → c < I.pixels → get_or p c K.zero ≡ get_or t c K.zero) → found_sum h p b ≡ bin_sum K I t b
  found_sum_all h p t b m e = sum_same K I.pixels (share h p b) _
      (λ c l. share_found h p b c (m c l) ∙ ap (λ x. cond (I.lies c b) x K.zero) (e c l))

  -- A tile that agrees has in every bin what was loaded.
  pub agrees_loaded : (source : ℕ → A) (t : List A) → Agrees K I source t → (b : ℕ) → b < I.bins → bin_sum K I t b ≡ loaded K I source b
  agrees_loaded source t g b l = go (I.whole b) refl
    where
      go : (x : Bool) → I.whole b ≡ x → bin_sum K I t b ≡ cond x (source b) K.zero
      go true e = g.sums b l e
      go false e = sum_zero K I.pixels _ (λ c k. ap (λ x. cond x (get_or t c K.zero) K.zero) (I.lost_empty c b e))

  module _ (h : History) (a c : ℕ) (s : Solo I h a c) (pic : List A) where
    -- pixel c is found with the value v
    pub solo_sum_in : (v : A) (b : ℕ) → I.pixels ≤ length pic → I.lies c b ≡ true → found_sum (settled a ∷ h) (set pic c v) b ≡ K.plus (found_sum h pic b) v
    solo_sum_in v b long on = sum_more K I.pixels (share h pic b) (share (settled a ∷ h) (set pic c v) b) c v s.inside
        (λ d l ne. share_same (settled a ∷ h) h (set pic c v) pic b d (s.same d l ne) (get_or-set_other pic c d v K.zero ne))
        (share_missing h pic b c s.was)
        (share_found (settled a ∷ h) (set pic c v) b c s.now
        ∙ ap (λ x. cond x (get_or (set pic c v) c K.zero) K.zero) on
        ∙ get_or-set_same pic c v K.zero (let i = s.inside in omega arith))

    pub solo_sum_out : (v : A) (b : ℕ) → I.lies c b ≡ false → found_sum (settled a ∷ h) (set pic c v) b ≡ found_sum h pic b
    solo_sum_out v b off = sum_same K I.pixels (share (settled a ∷ h) (set pic c v) b) (share h pic b) each
      where
        each : (d : ℕ) → d < I.pixels → share (settled a ∷ h) (set pic c v) b d ≡ share h pic b d
        each d l = ⊎_elim
            (λ (e : d ≡ c). let o : I.lies d b ≡ false = ap (λ x. I.lies x b) e ∙ off in
            share_elsewhere (settled a ∷ h) (set pic c v) b d o ∙ sym (share_elsewhere h pic b d o))
            (λ (ne : d ≡ c → ⊥). share_same (settled a ∷ h) h (set pic c v) pic b d (s.same d l ne) (get_or-set_other pic c d v K.zero ne))
            (cases_eq d c)

    -- The sum that is left in the bin is the value of its last pixel in every tile that agrees.
    pub solo_value : (source : ℕ → A) (v : A) (t : List A) → a < I.bins → Agrees K I source t →
        ((d : ℕ) → d < I.pixels → missing I h d ≡ false → get_or pic d K.zero ≡ get_or t d K.zero) →
        loaded K I source a ≡ K.plus v (found_sum h pic a) → v ≡ get_or t c K.zero
    solo_value source v t l g right balance = sym (drop_right K (get_or t c K.zero) v (found_sum h pic a)
        (K.laws.comm (get_or t c K.zero) (found_sum h pic a) ∙ sym whole ∙ agrees_loaded source t g a l ∙ balance))
      where
        whole : bin_sum K I t a ≡ K.plus (found_sum h pic a) (get_or t c K.zero)
        whole = sum_more K I.pixels (share h pic a) (λ d. cond (I.lies d a) (get_or t d K.zero) K.zero) c (get_or t c K.zero) s.inside
            each
            (share_missing h pic a c s.was)
            (ap (λ x. cond x (get_or t c K.zero) K.zero) s.lies_in)
          where
            each : (d : ℕ) → d < I.pixels → (d ≡ c → ⊥) → cond (I.lies d a) (get_or t d K.zero) K.zero ≡ share h pic a d
            each d k ne = ⊎_elim
                (λ (on : I.lies d a ≡ true). let f = s.others d k ne on in
                ap (λ x. cond (I.lies d a) x K.zero) (sym (right d k f)) ∙ sym (share_found h pic a d f))
                (λ (off : I.lies d a ≡ false). ap (λ x. cond x (get_or t d K.zero) K.zero) off ∙ sym (share_elsewhere h pic a d off))
                (cases_Bool (I.lies d a))
