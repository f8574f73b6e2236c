-- Each reason has its own fact, no two of which hold of one token; and what a word is worth tells which holds.
use Rattle.std.proofs.Common.{◌≡◌, ℕ, Bool, true, false, cond, ◌&&◌, leb, List, [], ◌∷◌, length, ℤ, pos, negsuc, nat_abs, Some, None, codes as text, Option, ◌↔◌, sym, refl, ap, ◌∙◌, subst, inl, inr, arith}
use Rattle.std.specs.Str.{bytes_eq}
use Rattle.std.proofs.lemmas.Slice.Eq.{bytes_eq-Decides}
use Rattle.std.proofs.lemmas.Bool.{leb-false}
use Rattle.samples.specs.declared.coded.Coded.{Ghosts as Codes}
use Rattle.samples.specs.Reading.{read_code}
use Rattle.mojette.specs.declared.direction.Direction.{Direction}
use Rattle.mojette.specs.Bounds.{most_side, most_places, most_step}
use Rattle.mojette.specs.Directions.{lawful}
use Rattle.mojette.specs.Meaning.{follows, side_ok}
use Rattle.format.specs.Format.{most_cause, within, size_word, cause_word, bins_word, there, code_word, near, p_word, direction_of, after_last, q_word, line_word, is_first}
use Rattle.format.specs.Numbers.{numeral}
use Rattle.format.specs.Readers.{Worth, good, bad, exactly}
use Rattle.format.specs.Reasons.{Spot, at_size, at_word, at_p, at_q, elsewhere, spot, directions, SizeOutside, CountOutside, Unlawful, far, lawless, Disordered, TellsReason}

-- the last direction of some, of which it comes first
abbrev pub nearest : List Direction → Option Direction
nearest [] = None
nearest (d ∷ ds) = Some d

bad_same : {A : Type 0} (a b : ℕ) → ◌≡◌ {A = Worth A} (bad a) (bad b) → a ≡ b
bad_same a b e = cc

good_bad : {A : Type 0} (a : A) (why : ℕ) → good a ≡ bad why → ⊥
good_bad a why e = let z : ◌≡◌ {A = ℕ} 0 1 = cc in omega arith

-- what a test lets pass is not wrong
failed : {A : Type 0} (b : Bool) (x : A) (r why : ℕ) → cond b (good x) (bad r) ≡ bad why → (b ≡ false) × (r ≡ why)
failed true x r why h = absurd (good_bad x why h)
failed false x r why h = (refl, bad_same r why h)

differ : false ≡ true → ⊥
differ e = let z : ◌≡◌ {A = ℕ} 0 1 = cc in omega arith

never : {A B : Type 0} → (A → ⊥) → (B → ⊥) → A ↔ B
never a b = (λ x. absurd (a x), λ y. absurd (b y))

-- Each token that is wrong behind the tokens ws, by what tokens are worth there, has the reason that is told.
abbrev pub Reasoned : {A : Type 0} → (List ℕ → Worth A) → List (List ℕ) → Type 0
Reasoned worth ws = (w : List ℕ) (why : ℕ) → worth w ≡ bad why → TellsReason ws w why

module _ (ws : List (List ℕ)) (w : List ℕ) where
  -- No fact of a reason holds at another spot.
  module _ (s : Spot) (here : spot ws ≡ s) where
    no_size : (at_size ≡ s → ⊥) → SizeOutside ws w → ⊥
    no_size n x = n (sym x.here ∙ here)

    no_count : (at_word ≡ s → ⊥) → CountOutside ws w → ⊥
    no_count n x = n (sym x.here ∙ here)

    no_unlawful : (at_p ≡ s → ⊥) → ((p : ℤ) → at_q p ≡ s → ⊥) → Unlawful ws w → ⊥
    no_unlawful n k (far h p e l) = n (sym h ∙ here)
    no_unlawful n k (lawless p q h e l) = k p (sym h ∙ here)

    no_disorder : ((p : ℤ) → at_q p ≡ s → ⊥) → Disordered ws w → ⊥
    no_disorder k x = k x.p (sym x.here ∙ here)

  unlawful_ordered : Unlawful ws w → Disordered ws w → ⊥
  unlawful_ordered (far h p e l) x = let g = x.here in let z : ◌≡◌ {A = ℕ} 0 1 = cc in omega arith
  unlawful_ordered (lawless p q h e l) x =
      let g = x.here in
      let i = x.is in
      let a : p ≡ x.p = cc in
      let b : q ≡ x.q = cc in
      differ (sym l ∙ (λ j. lawful (direction_of (a j) (b j))) ∙ x.law)

  tells_0 :
      (SizeOutside ws w → ⊥) → (CountOutside ws w → ⊥) → (Unlawful ws w → ⊥) → (Disordered ws w → ⊥) → TellsReason ws w 0
  tells_0 a b c d = record {
    at_most = omega arith;
    size = never (λ z. omega arith) a;
    count = never (λ z. omega arith) b;
    direction = never (λ z. omega arith) c;
    order = never (λ z. omega arith) d;
  }

  tells_1 : SizeOutside ws w → TellsReason ws w 1
  tells_1 x = record {
    at_most = omega arith;
    size = (λ z. x, λ y. refl);
    count = never (λ z. omega arith) (no_count at_size x.here (λ z. cc));
    direction = never (λ z. omega arith) (no_unlawful at_size x.here (λ z. cc) (λ p z. cc));
    order = never (λ z. omega arith) (no_disorder at_size x.here (λ p z. cc));
  }

  tells_2 : CountOutside ws w → TellsReason ws w 2
  tells_2 x = record {
    at_most = omega arith;
    size = never (λ z. omega arith) (no_size at_word x.here (λ z. cc));
    count = (λ z. x, λ y. refl);
    direction = never (λ z. omega arith) (no_unlawful at_word x.here (λ z. cc) (λ p z. cc));
    order = never (λ z. omega arith) (no_disorder at_word x.here (λ p z. cc));
  }

  tells_3 : Unlawful ws w → TellsReason ws w 3
  tells_3 x = record {
    at_most = omega arith;
    size = never (λ z. omega arith) (λ y. no_unlawful at_size y.here (λ z. cc) (λ p z. cc) x);
    count = never (λ z. omega arith) (λ y. no_unlawful at_word y.here (λ z. cc) (λ p z. cc) x);
    direction = (λ z. x, λ y. refl);
    order = never (λ z. omega arith) (unlawful_ordered x);
  }

  tells_4 : Disordered ws w → TellsReason ws w 4
  tells_4 x = record {
    at_most = omega arith;
    size = never (λ z. omega arith) (no_size (at_q x.p) x.here (λ z. cc));
    count = never (λ z. omega arith) (no_count (at_q x.p) x.here (λ z. cc));
    direction = never (λ z. omega arith) (λ y. unlawful_ordered y x);
    order = (λ z. x, λ y. refl);
  }

  tells_elsewhere : spot ws ≡ elsewhere → TellsReason ws w 0
  tells_elsewhere e =
      tells_0 (no_size elsewhere e (λ z. cc)) (no_count elsewhere e (λ z. cc))
      (no_unlawful elsewhere e (λ z. cc) (λ p z. cc)) (no_disorder elsewhere e (λ p z. cc))

  tells_size : (why : ℕ) → spot ws ≡ at_size → size_word w ≡ bad why → TellsReason ws w why
  tells_size why e h = go (numeral w) refl h
    where
      go : (o : Option ℤ) → numeral w ≡ o → within 1 most_side 1 o ≡ bad why → TellsReason ws w why
      go None n k =
          subst (TellsReason ws w) (bad_same 0 why k)
          (tells_0 (λ x. let i = x.is in let z : ◌≡◌ {A = ℕ} 0 1 = cc in omega arith) (no_count at_size e (λ z. cc))
          (no_unlawful at_size e (λ z. cc) (λ p z. cc)) (no_disorder at_size e (λ p z. cc)))
      go (Some (pos v)) n k =
          let t = failed (leb 1 v && leb v most_side) v 1 why k in
          subst (TellsReason ws w) t.1 (tells_1 (record {
            here = e;
            number = pos v;
            is = n;
            outside = λ i same. let s : v ≡ i = cc in subst (λ y. side_ok y ≡ false) s t.0;
          }))
      go (Some (negsuc v)) n k =
          subst (TellsReason ws w) (bad_same 1 why k) (tells_1 (record {
            here = e;
            number = negsuc v;
            is = n;
            outside = λ i same. let z : ◌≡◌ {A = ℕ} 0 1 = cc in absurd (omega arith);
          }))

  tells_word :
      (why : ℕ) (ds : List Direction) (room : Bool) → spot ws ≡ at_word → directions ws ≡ ds
      → (room ≡ false → length ds ≡ most_places) → line_word (is_first (nearest ds)) room w ≡ bad why → TellsReason ws w why
  tells_word why ds room e told full h = go ds room (bytes_eq w (text "dir")) (bytes_eq w (text "end")) refl refl told full h
    where
      two : CountOutside ws w → ◌≡◌ {A = Worth Bool} (bad 2) (bad why) → TellsReason ws w why
      two x k = subst (TellsReason ws w) (bad_same 2 why k) (tells_2 x)

      go :
          (ds : List Direction) (room a b : Bool) → bytes_eq w (text "dir") ≡ a → bytes_eq w (text "end") ≡ b → directions ws ≡ ds
          → (room ≡ false → length ds ≡ most_places)
          → cond a (cond room (good true) (bad 2)) (cond b (cond (is_first (nearest ds)) (bad 2) (good false)) (bad 0)) ≡ bad why
          → TellsReason ws w why
      go ds true true b x y t f k = absurd (good_bad true why k)
      go ds false true b x y t f k =
          two (record { here = e; outside = inr ((bytes_eq-Decides w (text "dir")).0 x, ap length t ∙ f refl) }) k
      go [] room false true x y t f k = two (record { here = e; outside = inl ((bytes_eq-Decides w (text "end")).0 y, t) }) k
      go (d ∷ ds) room false true x y t f k = absurd (good_bad false why k)
      go ds room false false x y t f k =
          subst (TellsReason ws w) (bad_same 0 why k)
          (tells_0 (no_size at_word e (λ z. cc)) none (no_unlawful at_word e (λ z. cc) (λ p z. cc)) (no_disorder at_word e (λ p z. cc)))
        where
          none : CountOutside ws w → ⊥
          none c =
              elim c.outside [
                | inl p ↦ differ (sym y ∙ (bytes_eq-Decides w (text "end")).1 p.0)
                | inr p ↦ differ (sym x ∙ (bytes_eq-Decides w (text "dir")).1 p.0)
              ]

  tells_p : (why : ℕ) → spot ws ≡ at_p → p_word w ≡ bad why → TellsReason ws w why
  tells_p why e h = go (numeral w) refl h
    where
      no_far : numeral w ≡ None → Unlawful ws w → ⊥
      no_far n (far x p i l) = let z : ◌≡◌ {A = ℕ} 0 1 = cc in omega arith
      no_far n (lawless p q x i l) = let z : ◌≡◌ {A = ℕ} 0 1 = cc in omega arith

      go : (o : Option ℤ) → numeral w ≡ o → near o ≡ bad why → TellsReason ws w why
      go None n k =
          subst (TellsReason ws w) (bad_same 0 why k)
          (tells_0 (no_size at_p e (λ z. cc)) (no_count at_p e (λ z. cc)) (no_far n) (no_disorder at_p e (λ p z. cc)))
      go (Some z) n k =
          let t = failed (leb (nat_abs z) most_step) z 3 why k in
          subst (TellsReason ws w) t.1 (tells_3 (far e z n (leb-false (nat_abs z) most_step t.0)))

  tells_q :
      (why : ℕ) (ds : List Direction) (p : ℤ) → spot ws ≡ at_q p → directions ws ≡ ds → q_word (nearest ds) p w ≡ bad why
      → TellsReason ws w why
  tells_q why ds p e told h = go (numeral w) refl h
    where
      none : numeral w ≡ None → Unlawful ws w → ⊥
      none n (far x p i l) = let z : ◌≡◌ {A = ℕ} 0 1 = cc in omega arith
      none n (lawless p q x i l) = let z : ◌≡◌ {A = ℕ} 0 1 = cc in omega arith

      after :
          (q : ℤ) (ds : List Direction) (a b : Bool) → numeral w ≡ Some q → directions ws ≡ ds → lawful (direction_of p q) ≡ a
          → follows (nearest ds) (direction_of p q) ≡ b → cond a (cond b (good (direction_of p q)) (bad 4)) (bad 3) ≡ bad why
          → TellsReason ws w why
      after q ds false b n t l f k = subst (TellsReason ws w) (bad_same 3 why k) (tells_3 (lawless p q e n l))
      after q ds true true n t l f k = absurd (good_bad (direction_of p q) why k)
      after q [] true false n t l f k = let z : ◌≡◌ {A = ℕ} 0 1 = cc in absurd (omega arith)
      after q (d ∷ ds) true false n t l f k =
          subst (TellsReason ws w) (bad_same 4 why k)
          (tells_4 (record { p = p; here = e; q = q; is = n; law = l; last = d; others = ds; told = t; order = f }))

      go : (o : Option ℤ) → numeral w ≡ o → after_last (nearest ds) p o ≡ bad why → TellsReason ws w why
      go None n k =
          subst (TellsReason ws w) (bad_same 0 why k)
          (tells_0 (no_size (at_q p) e (λ z. cc)) (no_count (at_q p) e (λ z. cc)) (none n)
          (λ x. let i = x.is in let z : ◌≡◌ {A = ℕ} 0 1 = cc in omega arith))
      go (Some q) n k =
          after q ds (lawful (direction_of p q)) (follows (nearest ds) (direction_of p q)) n told refl refl k

-- Each word by where it stands ------------------------------------------------------------------------------------

module _ (ws : List (List ℕ)) where
  pub size_reasoned : spot ws ≡ at_size → Reasoned size_word ws
  size_reasoned e w why h = tells_size ws w why e h

  pub word_reasoned :
      (ds : List Direction) (room : Bool) → spot ws ≡ at_word → directions ws ≡ ds → (room ≡ false → length ds ≡ most_places)
      → Reasoned (line_word (is_first (nearest ds)) room) ws
  word_reasoned ds room e told full w why h = tells_word ws w why ds room e told full h

  pub p_reasoned : spot ws ≡ at_p → Reasoned p_word ws
  p_reasoned e w why h = tells_p ws w why e h

  pub q_reasoned : (ds : List Direction) (p : ℤ) → spot ws ≡ at_q p → directions ws ≡ ds → Reasoned (q_word (nearest ds) p) ws
  q_reasoned ds p e told w why h = tells_q ws w why ds p e told h

  -- what is wrong for reason 0 alone
  zero_reasoned :
      {A : Type 0} (worth : List ℕ → Worth A) → ((w : List ℕ) (why : ℕ) → worth w ≡ bad why → 0 ≡ why) → spot ws ≡ elsewhere
      → Reasoned worth ws
  zero_reasoned worth none e w why h = subst (TellsReason ws w) (none w why h) (tells_elsewhere ws w e)

  pub token_reasoned : (t : List ℕ) → spot ws ≡ elsewhere → Reasoned (exactly t) ws
  token_reasoned t = zero_reasoned (exactly t) (λ w why h. (failed (bytes_eq w t) tt 0 why h).1)

  pub cause_reasoned : spot ws ≡ elsewhere → Reasoned cause_word ws
  cause_reasoned = zero_reasoned cause_word (λ w why h. go (numeral w) why h)
    where
      go : (o : Option ℤ) (why : ℕ) → within 1 most_cause 0 o ≡ bad why → 0 ≡ why
      go None why k = bad_same 0 why k
      go (Some (pos v)) why k = (failed (leb 1 v && leb v most_cause) v 0 why k).1
      go (Some (negsuc v)) why k = bad_same 0 why k

  pub bins_reasoned : spot ws ≡ elsewhere → Reasoned bins_word ws
  bins_reasoned = zero_reasoned bins_word (λ w why h. go (bytes_eq w (text "bins")) (bytes_eq w (text "lost")) why h)
    where
      go : (a b : Bool) (why : ℕ) → cond a (good true) (cond b (good false) (bad 0)) ≡ bad why → 0 ≡ why
      go true b why k = absurd (good_bad true why k)
      go false b why k = (failed b false 0 why k).1

  pub code_reasoned : {S : Type 0} (C : Codes S) → spot ws ≡ elsewhere → Reasoned (code_word C) ws
  code_reasoned {S} C = zero_reasoned (code_word C) (λ w why h. go (read_code C w) why h)
    where
      go : (o : Option S) (why : ℕ) → there o ≡ bad why → 0 ≡ why
      go None why k = bad_same 0 why k
      go (Some x) why k = absurd (good_bad x why k)
