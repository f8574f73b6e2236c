-- Which sum is told as left over.
use Rattle.std.proofs.Common.{◌≡◌, ℕ, suc, ◌+◌, ◌<◌, ◌≤◌, Bool, true, false, cond, not, ltb, List, [], ◌∷◌, length, get_or, sym, refl, ap, ◌∙◌, subst, ap₂, subst₂, arith}
use Rattle.std.proofs.lemmas.Bool.{lt-ltb, le-ltb, ltb-true, ltb-false, not-false, not_from_true, both_ways}
use Rattle.samples.specs.declared.kind.Kind.{Ghosts as Operations}
use Rattle.mojette.specs.declared.direction.Record.{Record}
use Rattle.mojette.specs.Bins.{start, all_bins}
use Rattle.mojette.specs.Meaning.{Shape, bins_of}
use Rattle.mojette.specs.Refusals.{refusal}
use Rattle.peeling.specs.declared.state.State.{State}
use Rattle.peeling.specs.Steps.{pixels_missing, grants_out, left_over, first_left_over, finish_answers}
use Rattle.peeling.specs.Steps.{served as all_zero}
use Rattle.peeling.proofs.Bridges.{least_below, least_is}
use Rattle.peeling.proofs.Counts.{least_passes}
use Rattle.law.specs.Positions.{place_at, bin_at}
use Rattle.law.specs.Steps.{peeling, Tables, Answer, done, granted, settled, refused, short_sums, checked, finish_outcome, finish}
use Rattle.law.specs.Leftover.{FirstLeft, TellsLeft}
use Rattle.law.proofs.Places.{B, at, Split, here, there, split, place_here, place_there, bin_here, bin_there, place_of, bin_of_position, within_all, shift}

-- A position is that of the bin and place that it is.
record Placed (P Q : ℕ) (es : List Record) (x : ℕ) : Type 0 where
  place : place_at P Q es x < length es
  bin : bin_at P Q es x < B P Q (at P Q es (place_at P Q es x))
  position : start P Q es (place_at P Q es x) + bin_at P Q es x ≡ x

module _ (P Q : ℕ) where
  by : (es : List Record) (x i b : ℕ) → i ≡ place_at P Q es x → b ≡ bin_at P Q es x → i < length es → b < B P Q (at P Q es i) → start P Q es i + b ≡ x → Placed P Q es x
  by es x i b ei eb l k s =
      record {
        place = subst (λ n. n < length es) ei l;
        bin = subst (λ c. c < B P Q (at P Q es (place_at P Q es x))) eb (subst (λ n. b < B P Q (at P Q es n)) ei k);
        position = ap (λ c. start P Q es (place_at P Q es x) + c) (sym eb) ∙ ap (λ n. start P Q es n + b) (sym ei) ∙ s;
      }

  placed : (es : List Record) (x : ℕ) → x < all_bins P Q es → Placed P Q es x
  placed [] x l = absurd (omega arith)
  placed (e ∷ es) x l = go (λ y k. placed es y k) x (split P Q e es x l)
    where
      go : ((y : ℕ) → y < all_bins P Q es → Placed P Q es y) → (x : ℕ) → Split P Q e es x → Placed P Q (e ∷ es) x
      go rec x (here l) = by (e ∷ es) x 0 x (sym (place_here P Q e es x l)) (sym (bin_here P Q e es x l)) (omega arith) l (omega arith)
      go rec x (there {y} l) =
          let p = rec y l in
          by (e ∷ es) (B P Q e + y) (suc (place_at P Q es y)) (bin_at P Q es y) (sym (place_there P Q e es y)) (sym (bin_there P Q e es y))
          (let k = p.place in omega arith) p.bin (shift (B P Q e) (start P Q es (place_at P Q es y)) (bin_at P Q es y) ∙ ap (λ n. B P Q e + n) p.position)

module _ {S : Type 0} (K : Operations S) (shape : Shape) where
  abbrev left_at : List S → ℕ → Bool
  left_at sums x = not (K.equal (get_or sums x K.zero) K.zero)

  is_zero : (sums : List S) (x : ℕ) → left_at sums x ≡ false → get_or sums x K.zero ≡ K.zero
  is_zero sums x e = K.laws.equal_same _ _ (not-false _ e)

  zero_is : (sums : List S) (x : ℕ) → get_or sums x K.zero ≡ K.zero → left_at sums x ≡ false
  zero_is sums x e = not_from_true _ (ap (λ v. K.equal v K.zero) e ∙ K.laws.equal_self K.zero)

  first_left : (sums : List S) → first_left_over K (bins_of shape) sums < bins_of shape →
      FirstLeft K shape sums (place_at shape.P shape.Q shape.records (first_left_over K (bins_of shape) sums)) (bin_at shape.P shape.Q shape.records (first_left_over K (bins_of shape) sums))
  unfolding first_left_over
  first_left sums l =
      let x = first_left_over K (bins_of shape) sums in
      let p = placed shape.P shape.Q shape.records x l in
      record {
        place = p.place;
        bin = p.bin;
        here = λ z. both_ways _ (zero_is sums x (ap (λ n. get_or sums n K.zero) (sym p.position) ∙ z)) (least_passes (bins_of shape) (left_at sums) l);
        earlier = λ y k. is_zero sums y (least_below (bins_of shape) (left_at sums) y (subst (λ n. y < n) p.position k));
      }

  is_first : (sums : List S) (i b : ℕ) → FirstLeft K shape sums i b → first_left_over K (bins_of shape) sums ≡ start shape.P shape.Q shape.records i + b
  unfolding first_left_over
  is_first sums i b f =
      let x = start shape.P shape.Q shape.records i + b in
      least_is (bins_of shape) (left_at sums) x (within_all shape.P shape.Q shape.records i b f.place f.bin)
      (go x (left_at sums x) refl f.here) (λ y l. zero_is sums y (f.earlier y l))
    where
      go : (x : ℕ) (t : Bool) → left_at sums x ≡ t → ¬ (get_or sums x K.zero ≡ K.zero) → left_at sums x ≡ true
      go x true e n = e
      go x false e n = absurd (n (is_zero sums x e))

  -- what an answer tells
  abbrev number_of : Answer → ℕ
  number_of done = 0
  number_of (granted b) = 0
  number_of (settled c n) = 0
  number_of (refused r) = r.number

  abbrev first_of : Answer → ℕ
  first_of done = 0
  first_of (granted b) = 0
  first_of (settled c n) = 0
  first_of (refused r) = r.first

  abbrev second_of : Answer → ℕ
  second_of done = 0
  second_of (granted b) = 0
  second_of (settled c n) = 0
  second_of (refused r) = r.second

  module _ (s : State) (t : Tables S) (i b : ℕ) where
    abbrev T : ℕ
    T = bins_of shape

    abbrev x : ℕ
    x = first_left_over K T t.sums

    abbrev Told : Type 0
    Told = (T ≤ length t.sums) × (s.left ≡ 0) × (s.out ≡ 0) × FirstLeft K shape t.sums i b

    only : (finish K shape s t).answer ≡ refused (refusal 15 i b 0) → Told
    unfolding finish finish_answers short_sums
    only h = go (ltb (length t.sums) T) refl (ltb 0 s.left) refl (ltb 0 s.out) refl (ltb x T) refl h
      where
        go : (u : Bool) → ltb (length t.sums) T ≡ u → (v : Bool) → ltb 0 s.left ≡ v → (w : Bool) → ltb 0 s.out ≡ w → (z : Bool) → ltb x T ≡ z →
            (checked (cond u 3 0) (peeling s) t (finish_outcome K shape s t (cond v (pixels_missing s.left) (cond w (grants_out s.out) (cond z (left_over x) all_zero))))).answer ≡ refused (refusal 15 i b 0) →
            Told
        go true eu v ev w ew z ez h = let n : ◌≡◌ {A = ℕ} 5 15 = ap number_of h in absurd (omega arith)
        go false eu true ev w ew z ez h = let n : ◌≡◌ {A = ℕ} 13 15 = ap number_of h in absurd (omega arith)
        go false eu false ev true ew z ez h = let n : ◌≡◌ {A = ℕ} 14 15 = ap number_of h in absurd (omega arith)
        go false eu false ev false ew false ez h = let n : ◌≡◌ {A = ℕ} 0 15 = ap number_of h in absurd (omega arith)
        go false eu false ev false ew true ez h =
            let long = ltb-false _ _ eu in
            let left = ltb-false _ _ ev in
            let out = ltb-false _ _ ew in
            (long, omega arith, omega arith, subst₂ (FirstLeft K shape t.sums) (ap first_of h) (ap second_of h) (first_left t.sums (ltb-true _ _ ez)))

    so : Told → (finish K shape s t).answer ≡ refused (refusal 15 i b 0)
    unfolding finish finish_answers short_sums
    so w =
        let f = w.3 in
        let e = is_first t.sums i b f in
        let long : ltb (length t.sums) T ≡ false = le-ltb _ _ w.0 in
        let left : ltb 0 s.left ≡ false = le-ltb 0 s.left (omega (arith, w.1)) in
        let out : ltb 0 s.out ≡ false = le-ltb 0 s.out (omega (arith, w.2)) in
        let over : ltb x T ≡ true = lt-ltb x T (subst (λ n. n < T) (sym e) (within_all shape.P shape.Q shape.records i b f.place f.bin)) in
        rw (long, left, out, over)
        (ap₂ (λ p c. refused (refusal 15 p c 0))
        (ap (place_at shape.P shape.Q shape.records) e ∙ place_of shape.P shape.Q shape.records i b f.place f.bin)
        (ap (bin_at shape.P shape.Q shape.records) e ∙ bin_of_position shape.P shape.Q shape.records i b f.place f.bin))

  pub tells_left : TellsLeft K shape
  tells_left s t i b = (only s t i b, so s t i b)
