-- A text that is read as a file is the text of what it means.
use Rattle.std.proofs.Common.{◌≡◌, ℕ, zero, suc, ◌≤◌, Bool, true, false, eqb, List, [], ◌∷◌, ◌++◌, map, length, Some, None, codes as text, decimal, Option, sym, refl, ap, ◌∙◌, subst, subst₂, arith}
use Rattle.std.specs.Fmt.{signed_decimal}
use Rattle.std.specs.List.{AllByRecursion as All}
use Rattle.std.proofs.lemmas.List.{length-map}
use Rattle.std.proofs.lemmas.Bool.{cond-false, ne_eqb}
use Rattle.samples.specs.declared.coded.Coded.{Ghosts as Codes}
use Rattle.samples.specs.declared.kind.Kind.{Ghosts as Operations}
use Rattle.mojette.specs.declared.direction.Direction.{Direction}
use Rattle.mojette.specs.Bins.{bins}
use Rattle.mojette.specs.Bounds.{most_side, most_places}
use Rattle.mojette.specs.Directions.{lawful}
use Rattle.mojette.specs.Meaning.{Place, Meaning, follows}
use Rattle.format.specs.Format.{most_cause, size_word, cause_word, p_word, q_word, code_word, bins_word, line_word, head_reader, direction_reader, end_reader, is_first, codes_reader, sums_reader, held_reader, dir_reader, places_reader, file_reader, file, told}
use Rattle.format.specs.Laws.{ToldBy, WritesBack}
use Rattle.format.specs.Readers.{Parsed, done, fault, Reader, then, good}
use Rattle.format.specs.Texts.{codes_text, head_text, direction_text, trimmed_place, held_text, dir_text, places_text}
use Rattle.format.proofs.OfCodes.{sample_back}
use Rattle.format.proofs.OfPlaces.{Steps, parts_lawful, all_sums}
use Rattle.format.proofs.OfReaders.{accept_back, expect_back, last_back, then_back, end_back, done_same}
use Rattle.format.proofs.OfWords.{number_back, p_back, q_back, bins_name, bins_back, LineWord, line_back}

-- The first line --------------------------------------------------------------------------------------------------

size_back : (w : List ℕ) (v : ℕ) → size_word w ≡ good v → (w ≡ decimal v) × ((1 ≤ v) × (v ≤ most_side))
size_back w v h = let b = number_back 1 most_side 1 v w h (omega arith) in (b.0, (b.1, b.2))

pub record GoodHead (name t : List ℕ) (v : ℕ × ℕ) (r : List ℕ) : Type 0 where
  pub wide : (1 ≤ v.0) × (v.0 ≤ most_side)
  pub high : (1 ≤ v.1) × (v.1 ≤ most_side)
  pub is : t ≡ head_text (text "tile") name v.0 v.1 r

head_back : (name : List ℕ) (n : ℕ) (t : List ℕ) (v : ℕ × ℕ) (r : List ℕ) → head_reader name n t ≡ done v r → GoodHead name t v r
head_back name n t v r h =
    expect_back n (text "(") _ t v r h λ s1 e1 h1.
    expect_back n (text "tile") _ s1 v r h1 λ s2 e2 h2.
    expect_back n (text " ") _ s2 v r h2 λ s3 e3 h3.
    expect_back n name _ s3 v r h3 λ s4 e4 h4.
    expect_back n (text " ") _ s4 v r h4 λ s5 e5 h5.
    accept_back n size_word _ s5 v r h5 λ P w6 s6 e6 g6 h6.
    expect_back n (text " ") _ s6 v r h6 λ s7 e7 h7.
    accept_back n size_word _ s7 v r h7 λ Q w8 s8 e8 g8 h8.
    expect_back n (text ")") _ s8 v r h8 λ s9 e9 h9.
    expect_back n (10 ∷ []) _ s9 v r h9 λ s10 e10 h10.
    let same = done_same (P, Q) v s10 r h10 in
    let p = size_back w6 P g6 in
    let q = size_back w8 Q g8 in
    let body : s8 ≡ 41 ∷ (10 ∷ s10) = e9 ∙ ap (λ l. 41 ∷ l) e10 in
    let second : s6 ≡ 32 ∷ (decimal Q ++ (41 ∷ (10 ∷ s10))) = e7 ∙ ap (λ l. 32 ∷ l) (e8 ∙ (λ j. q.0 j ++ body j)) in
    let first : s4 ≡ 32 ∷ (decimal P ++ (32 ∷ (decimal Q ++ (41 ∷ (10 ∷ s10))))) = e5 ∙ ap (λ l. 32 ∷ l) (e6 ∙ (λ j. p.0 j ++ second j)) in
    subst₂ (GoodHead name t) same.0 same.1 (record {
      wide = p.1;
      high = q.1;
      is = e1 ∙ ap (λ l. 40 ∷ l) (e2 ∙ ap (λ l. text "tile" ++ l) (e3 ∙ ap (λ l. 32 ∷ l) (e4 ∙ ap (λ l. name ++ l) first)));
    })

-- A place ---------------------------------------------------------------------------------------------------------

pub record GoodDirection (last : Option Direction) (bs : List ℕ) (d : Direction) (r : List ℕ) : Type 0 where
  pub law : lawful d ≡ true
  pub order : follows last d ≡ true
  pub is : bs ≡ direction_text d r

direction_back :
    (n : ℕ) (last : Option Direction) (bs : List ℕ) (d : Direction) (r : List ℕ) → direction_reader n last bs ≡ done d r
    → GoodDirection last bs d r
direction_back n last bs d r h =
    expect_back n (text " ") _ bs d r h λ s1 e1 h1.
    accept_back n p_word _ s1 d r h1 λ p w s2 e2 g2 h2.
    expect_back n (text " ") _ s2 d r h2 λ s3 e3 h3.
    last_back n (q_word last p) s3 d r h3 λ u e4 g4.
    let y = q_back last p u d g4 in
    record {
      law = y.law;
      order = y.order;
      is = e1 ∙ ap (λ l. 32 ∷ l) (e2 ∙ (λ j. (p_back w p g2 ∙ ap signed_decimal y.across) j ++ (e3 ∙ ap (λ l. 32 ∷ l) (e4 ∙ ap (λ z. z ++ r) y.text)) j));
    }

module _ {S : Type 0} (C : Codes S) (n : ℕ) where
  pub record GoodCodes (b : ℕ) (bs : List ℕ) (xs : List S) (r : List ℕ) : Type 0 where
    pub count : length xs ≡ b
    pub is : bs ≡ codes_text C xs r

  pub codes_back : (b : ℕ) (bs : List ℕ) (xs : List S) (r : List ℕ) → codes_reader C n b bs ≡ done xs r → GoodCodes b bs xs r
  codes_back zero bs xs r h =
      let e = done_same [] xs bs r h in subst₂ (GoodCodes zero bs) e.0 e.1 (record { count = refl; is = refl })
  codes_back (suc b) bs xs r h =
      expect_back n (text " ") _ bs xs r h λ s1 e1 h1.
      accept_back n (code_word C) _ s1 xs r h1 λ x w s2 e2 g h2.
      then_back (codes_reader C n b s2) _ xs r h2 λ ys s3 e3 h3.
      let e = done_same (x ∷ ys) xs s3 r h3 in
      let i = codes_back b s2 ys s3 e3 in
      subst₂ (GoodCodes (suc b) bs) e.0 e.1 (record {
        count = ap suc i.count;
        is = e1 ∙ ap (λ l. 32 ∷ l) (e2 ∙ (λ j. sample_back C w x g j ++ i.is j));
      })

module _ {S : Type 0} (K : Operations S) (C : Codes S) (n P Q : ℕ) where
  -- what the reader of a place makes of a direction, a cause and sums
  abbrev place_of : Direction → ℕ × List S → Place S
  place_of d y = record { entry = record { direction = d; cause = y.0 }; sums = y.1 }

  -- what a place holds
  pub record GoodHeld (d : Direction) (bs : List ℕ) (y : ℕ × List S) (r : List ℕ) : Type 0 where
    pub small : y.0 ≤ most_cause
    pub trim : trimmed_place K P Q (place_of d y) ≡ place_of d y
    pub is : bs ≡ held_text K C P Q (place_of d y) r

  sums_back :
      (d : Direction) (how : Bool) (bs : List ℕ) (y : ℕ × List S) (r : List ℕ) → sums_reader C n (bins P Q d) how bs ≡ done y r
      → GoodHeld d (bins_name how ++ bs) y r
  sums_back d true bs y r h =
      then_back (codes_reader C n (bins P Q d) bs) _ y r h λ xs s1 e1 h1.
      let e = done_same (0, xs) y s1 r h1 in
      let i = codes_back C n (bins P Q d) bs xs s1 e1 in
      let all = all_sums K P Q (place_of d (0, xs)) i.count in
      subst₂ (GoodHeld d (text "bins" ++ bs)) e.0 e.1 (record {
        small = omega arith;
        trim = ap {B = Place S} (λ l. record { entry = record { direction = d; cause = 0 }; sums = l }) all;
        is = ap (λ l. text "bins" ++ l) (i.is ∙ ap (λ l. codes_text C l s1) (sym all));
      })
  sums_back d false bs y r h =
      expect_back n (text " ") _ bs y r h λ s1 e1 h1.
      accept_back n cause_word _ s1 y r h1 λ c w s2 e2 g h2.
      let e = done_same (c, []) y s2 r h2 in
      let v = number_back 1 most_cause 0 c w g (omega arith) in
      let lost : eqb c 0 ≡ false = ne_eqb c 0 (λ z. omega (arith, v.1)) in
      subst₂ (GoodHeld d (text "lost" ++ bs)) e.0 e.1 (record {
        small = v.2;
        trim = ap {B = Place S} (λ l. record { entry = record { direction = d; cause = c }; sums = l }) (cond-false (eqb c 0) _ _ lost);
        is = ap (λ l. text "lost" ++ l) (e1 ∙ ap (λ l. 32 ∷ l) (e2 ∙ ap (λ x. x ++ s2) v.0)) ∙ sym (cond-false (eqb c 0) _ _ lost);
      })

  held_back :
      (d : Direction) (bs : List ℕ) (y : ℕ × List S) (r : List ℕ) → held_reader C n (bins P Q d) bs ≡ done y r
      → (s : List ℕ) × GoodHeld d s y (text "))" ++ (10 ∷ r)) × (bs ≡ text " (" ++ s)
  held_back d bs y r h =
      expect_back n (text " ") _ bs y r h λ s1 e1 h1.
      expect_back n (text "(") _ s1 y r h1 λ s2 e2 h2.
      accept_back n bins_word _ s2 y r h2 λ how w s3 e3 g h3.
      then_back (sums_reader C n (bins P Q d) how s3) _ y r h3 λ z s4 e4 h4.
      expect_back n (text ")") _ s4 y r h4 λ s5 e5 h5.
      expect_back n (text ")") _ s5 y r h5 λ s6 e6 h6.
      expect_back n (10 ∷ []) _ s6 y r h6 λ s7 e7 h7.
      let e = done_same z y s7 r h7 in
      let tail : s4 ≡ 41 ∷ (41 ∷ (10 ∷ r)) = e5 ∙ ap (λ l. 41 ∷ l) (e6 ∙ ap (λ l. 41 ∷ l) (e7 ∙ ap (λ l. 10 ∷ l) e.1)) in
      (bins_name how ++ s3, subst₂ (GoodHeld d (bins_name how ++ s3)) e.0 tail (sums_back d how s3 z s4 e4), e1 ∙ ap (λ l. 32 ∷ l) (e2 ∙ ap (λ l. 40 ∷ l) (e3 ∙ ap (λ x. x ++ s3) (bins_back w how g))))

  pub record GoodPlace (last : Option Direction) (bs : List ℕ) (x : Place S) (r : List ℕ) : Type 0 where
    pub law : lawful x.entry.direction ≡ true
    pub order : follows last x.entry.direction ≡ true
    pub small : x.entry.cause ≤ most_cause
    pub trim : trimmed_place K P Q x ≡ x
    pub is : bs ≡ dir_text K C P Q x r

  dir_back :
      (last : Option Direction) (bs : List ℕ) (x : Place S) (r : List ℕ) → dir_reader C n P Q last bs ≡ done x r
      → GoodPlace last bs x r
  dir_back last bs x r h =
      then_back (direction_reader n last bs) _ x r h λ d s1 e1 h1.
      then_back (held_reader C n (bins P Q d) s1) _ x r h1 λ y s2 e2 h2.
      let e = done_same (place_of d y) x s2 r h2 in
      let i = direction_back n last bs d s1 e1 in
      let j = held_back d s1 y s2 e2 in
      subst₂ (GoodPlace last bs) e.0 e.1 (record {
        law = i.law;
        order = i.order;
        small = j.1.small;
        trim = j.1.trim;
        is = i.is ∙ ap (direction_text d) (j.2 ∙ ap (λ l. text " (" ++ l) j.1.is);
      })

  -- The lines after the first -------------------------------------------------------------------------------------

  pub record Good-places (last : Option Direction) (room : ℕ) (bs : List ℕ) (xs : List (Place S)) : Type 0 where
    pub each : Steps last (map (λ x. x.entry) xs)
    pub small : All (λ x. x.entry.cause ≤ most_cause) xs
    pub trim : map (trimmed_place K P Q) xs ≡ xs
    pub few : length xs ≤ room
    pub some : is_first last ≡ true → 1 ≤ length xs
    pub is : bs ≡ places_text K C P Q xs

  -- what follows `(end`
  last_line :
      (last : Option Direction) (room : ℕ) (bs s : List ℕ) (xs : List (Place S)) (r : List ℕ) → bs ≡ text "(end" ++ s
      → is_first last ≡ false → end_reader n s ≡ done xs r → Good-places last room bs xs
  last_line last room bs s xs r e f h =
      expect_back n (text ")") _ s xs r h λ s1 e1 h1.
      expect_back n (10 ∷ []) _ s1 xs r h1 λ s2 e2 h2.
      end_back n _ s2 xs r h2 λ e3 h3.
      let same = done_same [] xs [] r h3 in
      subst (Good-places last room bs) same.0 (record {
        each = tt;
        small = tt;
        trim = refl;
        few = omega arith;
        some = λ g. let z : ◌≡◌ {A = ℕ} 0 1 = cc in absurd (omega arith);
        is = e ∙ ap (λ l. text "(end" ++ l) (e1 ∙ ap (λ l. 41 ∷ l) (e2 ∙ ap (λ l. 10 ∷ l) e3));
      })

  -- what follows `(dir` or `(end`
  abbrev pub line_reader : Option Direction → ℕ → Bool → Reader (List (Place S))
  line_reader last room true bs =
      then (dir_reader C n P Q last bs) (λ x s. then (places_reader C n P Q (Some x.entry.direction) room s) (λ xs. done (x ∷ xs)))
  line_reader last room false bs = end_reader n bs

  places_back :
      (last : Option Direction) (room : ℕ) (bs : List ℕ) (xs : List (Place S)) (r : List ℕ)
      → places_reader C n P Q last room bs ≡ done xs r → Good-places last room bs xs
  places_back last zero bs xs r h =
      expect_back n (text "(") _ bs xs r h λ s1 e1 h1.
      accept_back n (line_word (is_first last) false) _ s1 xs r h1 λ more w s2 e2 g h2.
      go more w s2 (e1 ∙ ap (λ l. 40 ∷ l) e2) (line_back (is_first last) false w more g) h2
    where
      go :
          (more : Bool) (w s : List ℕ) → bs ≡ 40 ∷ (w ++ s) → LineWord (is_first last) false w more → end_reader n s ≡ done xs r
          → Good-places last zero bs xs
      go true w s e l k = let y = l.1 in let z : ◌≡◌ {A = ℕ} 0 1 = cc in absurd (omega arith)
      go false w s e l k = last_line last zero bs s xs r (e ∙ ap (λ v. 40 ∷ (v ++ s)) l.0) l.1 k
  places_back last (suc room) bs xs r h =
      expect_back n (text "(") _ bs xs r h λ s1 e1 h1.
      accept_back n (line_word (is_first last) true) _ s1 xs r h1 λ more w s2 e2 g h2.
      go (λ v s ys q k. places_back v room s ys q k) more w s2 (e1 ∙ ap (λ l. 40 ∷ l) e2) (line_back (is_first last) true w more g) h2
    where
      go :
          ((v : Option Direction) (s : List ℕ) (ys : List (Place S)) (q : List ℕ) → places_reader C n P Q v room s ≡ done ys q → Good-places v room s ys)
          → (more : Bool) (w s : List ℕ) → bs ≡ 40 ∷ (w ++ s) → LineWord (is_first last) true w more → line_reader last room more s ≡ done xs r
          → Good-places last (suc room) bs xs
      go rec false w s e l k = last_line last (suc room) bs s xs r (e ∙ ap (λ v. 40 ∷ (v ++ s)) l.0) l.1 k
      go rec true w s e l k =
          then_back (dir_reader C n P Q last s) _ xs r k λ x s3 e3 h3.
          then_back (places_reader C n P Q (Some x.entry.direction) room s3) _ xs r h3 λ ys s4 e4 h4.
          let same = done_same (x ∷ ys) xs s4 r h4 in
          let i = dir_back last s x s3 e3 in
          let j = rec (Some x.entry.direction) s3 ys s4 e4 in
          subst (Good-places last (suc room) bs) same.0 (record {
            each = (i.law, i.order, j.each);
            small = (i.small, j.small);
            trim = λ q. i.trim q ∷ j.trim q;
            few = omega (arith, j.few);
            some = λ _. omega arith;
            is = e ∙ ap (λ v. 40 ∷ (v ++ s)) l.0 ∙ ap (λ t. text "(dir" ++ t) (i.is ∙ ap (dir_text K C P Q x) j.is);
          })

-- The file --------------------------------------------------------------------------------------------------------

module _ {S : Type 0} (K : Operations S) (C : Codes S) where
  file_back : (n : ℕ) (t : List ℕ) (m : Meaning S) (r : List ℕ) → file_reader C n t ≡ done m r → ToldBy K C t m
  file_back n t m r h =
      then_back (head_reader C.name n t) _ m r h λ v s1 e1 h1.
      then_back (places_reader C n v.0 v.1 None most_places s1) _ m r h1 λ xs s2 e2 h2.
      let same = done_same (record { P = v.0; Q = v.1; places = xs }) m s2 r h2 in
      let i = head_back C.name n t v s1 e1 in
      let j = places_back K C n v.0 v.1 None most_places s1 xs s2 e2 in
      let count = length-map xs (λ x. x.entry) in
      let some = j.some refl in
      subst (ToldBy K C t) same.0 (record {
        lawful = parts_lawful _ (record { wide = i.wide; high = i.high; count = (omega arith, omega (arith, j.few)); each = j.each });
        causes = j.small;
        trim = ap {B = Meaning S} (λ l. record { P = v.0; Q = v.1; places = l }) j.trim;
        text = sym (i.is ∙ ap (head_text (text "tile") C.name v.0 v.1) j.is);
      })

  told_back : (t : List ℕ) (x : Parsed (Meaning S)) (m : Meaning S) → told t x ≡ file m → (r : List ℕ) × (x ≡ done m r)
  told_back t (done y r) m h = let same : y ≡ m = cc in (r, ap {B = Parsed (Meaning S)} (λ z. done z r) same)
  told_back t (fault byte why) m h = let z : ◌≡◌ {A = ℕ} 0 1 = cc in absurd (omega arith)

  pub writes_back : WritesBack K C
  writes_back t m h =
      let b = told_back t (file_reader C (length t) t) m h in file_back (length t) t m b.0 b.1
