-- Each reader of a file goes by the tokens that it reads, and tells the reason of the token where it stops.
use Rattle.std.proofs.Common.{◌≡◌, ℕ, zero, suc, ◌+◌, ◌<◌, leb, nat_abs, pos, inl, inr, Bool, true, false, List, [], ◌∷◌, length, ℤ, Some, codes as text, Option, sym, refl, ap, ◌∙◌, subst, arith}
use Rattle.std.proofs.lemmas.Bool.{cond-false}
use Rattle.samples.specs.Names.{IsWord}
use Rattle.samples.specs.Reading.{code}
use Rattle.samples.specs.declared.coded.Coded.{Ghosts as Codes}
use Rattle.mojette.specs.declared.direction.Direction.{Direction}
use Rattle.mojette.specs.Bins.{bins}
use Rattle.mojette.specs.Bounds.{most_places, most_step}
use Rattle.mojette.specs.Directions.{lawful}
use Rattle.mojette.specs.Meaning.{Place}
use Rattle.format.specs.Format.{direction_of, size_word, cause_word, p_word, q_word, code_word, bins_word, line_word, head_reader, direction_reader, end_reader, is_first, codes_reader, sums_reader, held_reader, dir_reader, places_reader, file_reader}
use Rattle.format.specs.Numbers.{numeral}
use Rattle.format.specs.Readers.{Reader, then, yield, Worth, good, bad, exactly, expect}
use Rattle.format.specs.Reasons.{spot, p_belongs, at_p, at_q, elsewhere, spot_of_q, line_spot, joined, directions}
use Rattle.format.proofs.Deciding.{Fact, Decided, yields, binds, maps, Another, Others, right, accepts, accept_then, accept_last, expect_then}
use Rattle.format.proofs.Following.{solid, marked, IsMark, mark_fits, mark_some, word_fits, word_some, solid_more}
use Rattle.format.proofs.OfReasons.{nearest, token_reasoned, size_reasoned, word_reasoned, p_reasoned, q_reasoned, cause_reasoned, bins_reasoned, code_reasoned}
use Rattle.format.proofs.OfCodes.{word_code, sample_there, sample_back}
use Rattle.format.proofs.OfReaders.{exactly_there}
use Rattle.format.proofs.OfWords.{near_back, after_back, bins_name, bins_back, LineWord, line_back}
use Rattle.format.proofs.Spots.{and_false, cond_same, joined_none, Long, spot_behind, no_p_behind, behind_word, Free, Ended, free_word, at_line, word_next, free_space}

-- the mark t, then the rest
mark_then :
    {B : Type 0} {last : Bool} {g : ℕ → Reader B} {Next : Fact B} {bs : List ℕ} (t : List ℕ) (ws : List (List ℕ)) → spot ws ≡ elsewhere
    → IsMark t → solid ws ≡ true → ((r : List ℕ) → Decided last g Next (t ∷ ws) r)
    → Decided last (λ n s. then (expect n t s) (λ _. g n)) Next ws bs
mark_then t ws e m h next = expect_then t ws e (mark_fits t ws m h) (mark_some t m) next

-- the same behind P and Q
later_then :
    {B : Type 0} {last : Bool} {g : ℕ → Reader B} {Next : Fact B} {bs : List ℕ} (t : List ℕ) (ws : List (List ℕ)) → Long ws
    → line_spot ws ≡ elsewhere → IsMark t → solid ws ≡ true → ((r : List ℕ) → Decided last g Next (t ∷ ws) r)
    → Decided last (λ n s. then (expect n t s) (λ _. g n)) Next ws bs
later_then t ws l e m h next = mark_then t ws (spot_behind ws elsewhere l e) m h next

-- the word t, then the rest
word_then :
    {B : Type 0} {last : Bool} {g : ℕ → Reader B} {Next : Fact B} {bs : List ℕ} (t : List ℕ) (ws : List (List ℕ)) → spot ws ≡ elsewhere
    → IsWord t → solid ws ≡ true → marked ws ≡ true → ((r : List ℕ) → Decided last g Next (t ∷ ws) r)
    → Decided last (λ n s. then (expect n t s) (λ _. g n)) Next ws bs
word_then t ws e i h m next = expect_then t ws e (word_fits t ws i h m) (word_some t i) next

-- another word, which is right
right_word :
    {A : Type 0} (worth : List ℕ → Worth A) (ws : List (List ℕ)) (v : List ℕ) (a : A) → worth v ≡ good a → IsWord v → solid ws ≡ true
    → marked ws ≡ true → Others false worth ws
right_word worth ws v a h i s m = right worth ws v a h (word_fits v ws i s m) (word_some v i)

-- no token is right that is empty
good_some :
    {A : Type 0} (worth : List ℕ → Worth A) (y : ℕ) → worth [] ≡ bad y → (w : List ℕ) (a : A) → worth w ≡ good a → 0 < length w
good_some worth y e [] a h = let k = sym e ∙ h in let z : ◌≡◌ {A = ℕ} 0 1 = cc in absurd (omega arith)
good_some worth y e (b ∷ w) a h = omega arith

head_decides : (name bs : List ℕ) → IsWord name → Decided false (λ n. head_reader name n) (λ v ws. Ended [] ws) [] bs
head_decides name bs i =
    mark_then (text "(") [] refl refl refl λ r1.
    word_then (text "tile") _ refl (refl, (refl, (refl, (refl, tt)))) refl refl λ r2.
    mark_then (text " ") _ refl refl refl λ r3.
    word_then name _ refl i refl refl λ r4.
    let s5 = solid_more name (text " " ∷ (text "tile" ∷ (text "(" ∷ []))) (word_some name i) refl in
    let ws = text " " ∷ (name ∷ (text " " ∷ (text "tile" ∷ (text "(" ∷ [])))) in
    mark_then (text " ") _ (simp (and_false, cond_same)) refl s5 λ r5.
    accept_then size_word _ (size_reasoned _ refl) (right_word size_word _ (text "1") 1 refl (refl, tt) s5 refl) λ P u r6 j.
    let s7 = solid_more u ws (good_some size_word 0 refl u P j) s5 in
    mark_then (text " ") _ (simp (and_false, cond_same)) refl s7 λ r7.
    accept_then size_word _ (size_reasoned _ refl) (right_word size_word _ (text "1") 1 refl (refl, tt) s7 refl) λ Q v r8 k.
    let s9 = solid_more v (text " " ∷ (u ∷ ws)) (good_some size_word 0 refl v Q k) s7 in
    mark_then (text ")") _ (simp (and_false, cond_same)) refl s9 λ r9.
    mark_then (10 ∷ []) _ refl refl s9 λ r10.
    yields (P, Q) _ r10 (record { others = _; is = refl; long = omega arith; all_solid = s9; told = simp (and_false, joined_none) })

-- no step down by 8 is lawful
too_far : (p : ℤ) → lawful (direction_of p (pos 8)) ≡ false
too_far p = and_false (leb (nat_abs p) most_step)

-- whatever reason a q is wrong for, another token there is wrong for another: a bracket for reason 0, and 8 for reason 3
other_q :
    (last : Option Direction) (p : ℤ) (ws : List (List ℕ)) → solid ws ≡ true → marked ws ≡ true → Others false (q_word last p) ws
other_q last p ws s m w why h = go why
  where
    go : (why : ℕ) → Another false (q_word last p) ws why
    go zero = record {
      v = text "8";
      fits = word_fits (text "8") ws (refl, tt) s m;
      some = inr (omega arith);
      worth_is = inr (3, cond-false (lawful (direction_of p (pos 8))) _ _ (too_far p), λ e. omega arith);
    }
    go (suc y) = record {
      v = text "(";
      fits = mark_fits (text "(") ws refl s;
      some = inr (omega arith);
      worth_is = inr (0, refl, λ e. omega arith);
    }

direction_decides :
    (ds : List Direction) (ws : List (List ℕ)) (bs : List ℕ) → Long ws → solid ws ≡ true → directions ws ≡ ds
    → Decided false (λ n. direction_reader n (nearest ds)) (λ d vs. Free (d ∷ ds) vs) (text "dir" ∷ (text "(" ∷ ws)) bs
direction_decides ds ws bs l s t =
    later_then (text " ") _ (omega arith) refl refl s λ r1.
    let us = text "dir" ∷ (text "(" ∷ ws) in
    let vs = text " " ∷ us in
    accept_then p_word vs (p_reasoned vs (spot_behind vs at_p (omega arith) refl))
    (right_word p_word vs (text "0") (pos 0) refl (refl, tt) s refl) λ p u r2 i.
    let xs = text " " ∷ (u ∷ vs) in
    let is : numeral u ≡ Some p = (near_back p (numeral u) i).0 in
    let told : directions xs ≡ ds = joined_none (numeral u) (directions ws) ∙ t in
    let s' : solid (u ∷ vs) ≡ true = solid_more u vs (good_some p_word 0 refl u p i) s in
    later_then (text " ") _ (omega arith) (behind_word u us) refl s' λ r3.
    let here : line_spot xs ≡ at_q p = cond-false (p_belongs xs) at_p (spot_of_q (numeral u)) (no_p_behind u us) ∙ ap spot_of_q is in
    accept_last (q_word (nearest ds) p) xs (q_reasoned xs ds p (spot_behind xs (at_q p) (omega arith) here) told)
    (other_q (nearest ds) p xs s' refl)
    (λ d w h.
    let b = after_back (nearest ds) p (numeral w) d h in
    free_word (d ∷ ds) w (u ∷ vs) (omega arith) (no_p_behind u us) (good_some (q_word (nearest ds) p) 0 refl w d h) s'
    (λ j. joined (b.0 j) ((is ∙ ap {B = Option ℤ} Some b.1) j) (told j)))

end_decides :
    {A : Type 0} (ws : List (List ℕ)) (bs : List ℕ) → Long ws → solid ws ≡ true
    → Decided true (λ n. end_reader {A = A} n) (λ _ _. Unit {0}) (text "end" ∷ (text "(" ∷ ws)) bs
end_decides ws bs l s =
    later_then (text ")") _ (omega arith) refl refl s λ r1.
    later_then (10 ∷ []) _ (omega arith) refl refl s λ r2.
    let vs = (10 ∷ []) ∷ (text ")" ∷ (text "end" ∷ (text "(" ∷ ws))) in
    maps (λ _. []) (accepts (exactly []) vs r2 (token_reasoned vs [] (spot_behind vs elsewhere (omega arith) refl)) (none vs s))
    (λ _ _ _. tt)
  where
    none : (vs : List (List ℕ)) → solid vs ≡ true → Others true (exactly []) vs
    none vs s w why h = record {
      v = [];
      fits = record { whole = refl; behind_solid = s; apart = inl tt };
      some = inl refl;
      worth_is = inl (tt, exactly_there []);
    }

module _ {S : Type 0} (C : Codes S) where
  code_some : (w : List ℕ) (x : S) → code_word C w ≡ good x → 0 < length w
  code_some w x h = subst (λ v. 0 < length v) (sym (sample_back C w x h)) (word_some (code C x) (word_code C x))

  codes_decide :
      (b : ℕ) (ds : List Direction) (ws : List (List ℕ)) (bs : List ℕ) → Free ds ws
      → Decided false (λ n. codes_reader C n b) (λ _ vs. Free ds vs) ws bs
  codes_decide zero ds ws bs f = yields [] ws bs f
  codes_decide (suc b) ds ws bs f =
      later_then (text " ") ws f.long f.here refl f.all_solid λ r1.
      let y = C.sample 0 in
      accept_then (code_word C) _ (code_reasoned _ C (free_space ds ws f))
      (right_word (code_word C) _ (code C y) y (sample_there C y) (word_code C y) f.all_solid refl) λ x w r2 i.
      let told : directions (w ∷ (text " " ∷ ws)) ≡ ds =
      ap (λ o. joined (numeral w) o (directions ws)) f.no_q ∙ joined_none (numeral w) (directions ws) ∙ f.told in
      let next = free_word ds w ws f.long f.no_p (code_some w x i) f.all_solid told in
      binds (codes_decide b ds (w ∷ (text " " ∷ ws)) r2 next) λ xs vs r3 g.
      yields (x ∷ xs) vs r3 g

  sums_decide :
      (b : ℕ) (how : Bool) (ds : List Direction) (ws : List (List ℕ)) (bs : List ℕ) → Long ws → solid ws ≡ true → directions ws ≡ ds
      → Decided false (λ n. sums_reader C n b how) (λ _ vs. Free ds vs) (bins_name how ∷ (text "(" ∷ (text " " ∷ ws))) bs
  sums_decide b true ds ws bs l s t =
      let start : Free ds (text "bins" ∷ (text "(" ∷ (text " " ∷ ws))) =
      record { long = omega arith; here = refl; no_p = refl; no_q = refl; all_solid = s; told = t } in
      binds (codes_decide b ds _ bs start) λ xs vs r1 f.
      yields (0, xs) vs r1 f
  sums_decide b false ds ws bs l s t =
      later_then (text " ") _ (omega arith) refl refl s λ r1.
      let vs = text " " ∷ (text "lost" ∷ (text "(" ∷ (text " " ∷ ws))) in
      accept_then cause_word vs (cause_reasoned vs (spot_behind vs elsewhere (omega arith) refl))
      (right_word cause_word vs (text "1") 1 refl (refl, tt) s refl) λ c w r2 i.
      let told = joined_none (numeral w) (directions ws) ∙ t in
      yields (c, []) _ r2 (free_word ds w _ (omega arith) refl (good_some cause_word 0 refl w c i) s told)

  sums_behind :
      (w : List ℕ) (b : ℕ) (how : Bool) (ds : List Direction) (ws : List (List ℕ)) (bs : List ℕ) → w ≡ bins_name how → Long ws
      → solid ws ≡ true → directions ws ≡ ds
      → Decided false (λ n. sums_reader C n b how) (λ _ vs. Free ds vs) (w ∷ (text "(" ∷ (text " " ∷ ws))) bs
  sums_behind w b how ds ws bs e l s t =
      let us = text "(" ∷ (text " " ∷ ws) in
      subst (λ v. Decided false (λ n. sums_reader C n b how) (λ _ vs. Free ds vs) (v ∷ us) bs) (sym e) (sums_decide b how ds ws bs l s t)

  held_decides :
      (b : ℕ) (ds : List Direction) (ws : List (List ℕ)) (bs : List ℕ) → Free ds ws
      → Decided false (λ n. held_reader C n b) (λ _ vs. Ended ds vs) ws bs
  held_decides b ds ws bs f =
      let s = f.all_solid in
      later_then (text " ") ws f.long f.here refl s λ r1.
      mark_then (text "(") _ (free_space ds ws f) refl s λ r2.
      let l = f.long in
      let us = text "(" ∷ (text " " ∷ ws) in
      accept_then bins_word us (bins_reasoned us (spot_behind us elsewhere (omega arith) refl))
      (right_word bins_word us (text "bins") true refl (refl, (refl, (refl, (refl, tt)))) s refl) λ how w r3 g.
      binds (sums_behind w b how ds ws r3 (bins_back w how g) f.long s f.told) λ y vs r4 h.
      later_then (text ")") vs h.long h.here refl h.all_solid λ r5.
      let k = h.long in
      later_then (text ")") _ (omega arith) refl refl h.all_solid λ r6.
      later_then (10 ∷ []) _ (omega arith) refl refl h.all_solid λ r7.
      yields y _ r7 (record { others = _; is = refl; long = omega arith; all_solid = h.all_solid; told = h.told })

  dir_decides :
      (P Q : ℕ) (ds : List Direction) (ws : List (List ℕ)) (bs : List ℕ) → Ended ds ws
      → Decided false (λ n. dir_reader C n P Q (nearest ds)) (λ x vs. Ended (x.entry.direction ∷ ds) vs)
      (text "dir" ∷ (text "(" ∷ ws)) bs
  dir_decides P Q ds ws bs e =
      binds (direction_decides ds ws bs e.long e.all_solid e.told) λ d vs r1 f.
      binds (held_decides (bins P Q d) (d ∷ ds) vs r1 f) λ y us r2 h.
      yields (record { entry = record { direction = d; cause = y.0 }; sums = y.1 }) us r2 h

  -- the reader of what follows `dir` or `end`
  abbrev line_reader : ℕ → ℕ → Option Direction → ℕ → ℕ → Bool → Reader (List (Place S))
  line_reader P Q last room n true bs =
      then (dir_reader C n P Q last bs) λ x s.
      then (places_reader C n P Q (Some x.entry.direction) room s) λ xs. yield (x ∷ xs)
  line_reader P Q last room n false bs = end_reader n bs

  -- all lines behind the first are read
  abbrev Lines : (ℕ → Reader (List (Place S))) → List (List ℕ) → List ℕ → Type 0
  Lines f ws bs = Decided true f (λ _ _. Unit {0}) ws bs

  line_decides :
      (P Q : ℕ) (ds : List Direction) (room : ℕ) (ws : List (List ℕ)) → Ended ds ws
      → ((d : Direction) (vs : List (List ℕ)) (r : List ℕ) → Ended (d ∷ ds) vs → Lines (λ n. places_reader C n P Q (Some d) room) vs r)
      → (first : Bool) (more : Bool) (w bs : List ℕ) → LineWord first true w more
      → Lines (λ n. line_reader P Q (nearest ds) room n more) (w ∷ (text "(" ∷ ws)) bs
  line_decides P Q ds room ws e rec first true w bs i =
      subst (λ v. Lines (λ n. line_reader P Q (nearest ds) room n true) (v ∷ (text "(" ∷ ws)) bs) (sym i.0)
      (binds (dir_decides P Q ds ws bs e) λ x vs r1 h.
      maps (λ xs. x ∷ xs) (rec x.entry.direction vs r1 h) (λ xs us u. tt))
  line_decides P Q ds room ws e rec first false w bs i =
      subst (λ v. Lines (λ n. line_reader P Q (nearest ds) room n false) (v ∷ (text "(" ∷ ws)) bs) (sym i.0)
      (end_decides ws bs e.long e.all_solid)

  -- behind the last place that there is room for
  last_decides :
      (ds : List Direction) (ws : List (List ℕ)) → Ended ds ws → (first more : Bool) (w bs : List ℕ) → LineWord first false w more
      → Lines (λ n. end_reader n) (w ∷ (text "(" ∷ ws)) bs
  last_decides ds ws e first true w bs i = let y = i.1 in let z : ◌≡◌ {A = ℕ} 0 1 = cc in absurd (omega arith)
  last_decides ds ws e first false w bs i =
      subst (λ v. Lines (λ n. end_reader n) (v ∷ (text "(" ∷ ws)) bs) (sym i.0) (end_decides ws bs e.long e.all_solid)

  places_decide :
      (P Q : ℕ) (ds : List Direction) (room : ℕ) (ws : List (List ℕ)) (bs : List ℕ) → Ended ds ws → length ds + room ≡ most_places
      → Lines (λ n. places_reader C n P Q (nearest ds) room) ws bs
  places_decide P Q ds zero ws bs e c =
      mark_then (text "(") ws (at_line ds ws e) refl e.all_solid λ r1.
      let first = is_first (nearest ds) in
      let us = text "(" ∷ ws in
      accept_then (line_word first false) us (word_reasoned us ds false (word_next ds ws e) e.told (λ _. omega arith))
      (right_word (line_word first false) us (text "end") false (some ds c) (refl, (refl, (refl, tt))) e.all_solid refl) λ more w r2 g.
      last_decides ds ws e first more w r2 (line_back first false w more g)
    where
      some : (ds : List Direction) → length ds + 0 ≡ most_places → line_word (is_first (nearest ds)) false (text "end") ≡ good false
      some [] c = absurd (omega arith)
      some (d ∷ ds) c = refl
  places_decide P Q ds (suc room) ws bs e c =
      mark_then (text "(") ws (at_line ds ws e) refl e.all_solid λ r1.
      let first = is_first (nearest ds) in
      let us = text "(" ∷ ws in
      let rec = λ (d : Direction) (vs : List (List ℕ)) (r : List ℕ) (k : Ended (d ∷ ds) vs).
      places_decide P Q (d ∷ ds) room vs r k (omega arith) in
      accept_then (line_word first true) us (word_reasoned us ds true (word_next ds ws e) e.told no_room)
      (right_word (line_word first true) us (text "dir") true refl (refl, (refl, (refl, tt))) e.all_solid refl) λ more w r2 g.
      line_decides P Q ds room ws e rec first more w r2 (line_back first true w more g)
    where
      no_room : true ≡ false → length ds ≡ most_places
      no_room n = let z : ◌≡◌ {A = ℕ} 0 1 = cc in absurd (omega arith)

  pub file_decides : (bs : List ℕ) → Decided true (λ n. file_reader C n) (λ _ _. Unit {0}) [] bs
  file_decides bs =
      binds (head_decides C.name bs C.naming.word) λ v ws r1 e.
      maps (λ xs. record { P = v.0; Q = v.1; places = xs }) (places_decide v.0 v.1 [] most_places ws r1 e refl) (λ xs us u. tt)
