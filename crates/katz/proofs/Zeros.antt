-- Under the criterion a tile that vanishes is zero: a pixel that is alone among those that are not zero in its bin is the sum of that bin.
use Rattle.std.proofs.Common.{◌≡◌, ℕ, ◌+◌, ◌*◌, ◌/◌, ◌%◌, ◌<◌, Bool, true, false, cond, not, ◌&&◌, ltb, ◌⊎◌, List, get_or, ℤ, sym, refl, ap, ◌∙◌, ap₂, inl, inr}
use Rattle.std.proofs.ByRecursion.{all-has}
use Rattle.std.proofs.lemmas.Nat.{div-add-mod'}
use Rattle.std.proofs.lemmas.Bool.{cases_Bool, both_ways, and_parts, and_from, ltb-true, lt-ltb, not-true, not_from_false, cond-true}
use Rattle.samples.specs.declared.kind.Kind.{Ghosts as Operations}
use Rattle.mojette.specs.declared.direction.Direction.{Direction}
use Rattle.mojette.specs.Bins.{raw, bins}
use Rattle.mojette.specs.Directions.{equal, lawful, LawfulDirections}
use Rattle.mojette.specs.Transform.{sample_at, raw_sum, bin_sum}
use Rattle.mojette.proofs.Equal.{equal_true, equal_same}
use Rattle.katz.specs.Sets.{Pixels, Within, Criterion, Alone, Peelable}
use Rattle.katz.specs.Ghosts.{Vanishes}
use Rattle.katz.proofs.Lawful.{all_lawful_is}
use Rattle.katz.proofs.Peel.{peels}
use Rattle.katz.proofs.Pixels.{column_below, row_below, cell_below, at_cell}
use Rattle.katz.proofs.Ranges.{raw_in_range}
use Rattle.katz.proofs.Sums.{sum_of_one}

module _ {S : Type 0} (K : Operations S) (P Q : ℕ) (tile : List S) where
  abbrev sample : ℕ → S
  sample c = get_or tile c K.zero

  -- the pixels whose samples are not zero
  support : Pixels
  support k l = ltb k P && (ltb l Q && not (K.equal (sample (l * P + k)) K.zero))

  support_within : Within P Q support
  unfolding support
  support_within k l h =
      let e = and_parts (ltb k P) _ h in
      (ltb-true k P e.0, ltb-true l Q (and_parts (ltb l Q) _ e.1).0)

  not_zero : (k l : ℕ) → support k l ≡ true → ¬ (sample (l * P + k) ≡ K.zero)
  unfolding support
  not_zero k l h z =
      let e = and_parts (ltb k P) _ h in
      let t = not-true (K.equal (sample (l * P + k)) K.zero) (and_parts (ltb l Q) _ e.1).1 in
      both_ways (K.equal K.zero K.zero) (sym (ap (λ (s : S). K.equal s K.zero) z) ∙ t) (K.laws.equal_self K.zero)

  supported : (c : ℕ) → c < P * Q → K.equal (sample c) K.zero ≡ false → support (c % P) (c / P) ≡ true
  unfolding support
  supported c b h =
      and_from _ _ (lt-ltb (c % P) P (column_below P Q c b))
      (and_from _ _ (lt-ltb (c / P) Q (row_below P Q c b)) (not_from_false _ (rw (div-add-mod' c P) h)))

  module _ (d : Direction) (k l : ℕ) (alone : Alone support d k l) where
    -- every other cell adds zero to the sum of the bin
    others : (i : ℕ) → i < P * Q → (i ≡ l * P + k → ⊥) → sample_at K P tile d (raw d k l) i ≡ K.zero
    others i b ne = go (equal (raw d (i % P) (i / P)) (raw d k l)) refl (cases_Bool (K.equal (sample i) K.zero))
      where
        go :
            (t : Bool) → equal (raw d (i % P) (i / P)) (raw d k l) ≡ t
            → (K.equal (sample i) K.zero ≡ true) ⊎ (K.equal (sample i) K.zero ≡ false) → cond t (sample i) K.zero ≡ K.zero
        go false e h = refl
        go true e (inl h) = K.laws.equal_same (sample i) K.zero h
        go true e (inr h) =
            let at = alone.only (i % P) (i / P) (supported i b h) (equal_true (raw d (i % P) (i / P)) (raw d k l) e) in
            absurd (ne (sym (div-add-mod' i P) ∙ ap₂ (λ (m n : ℕ). m * P + n) at.1 at.0))

    bin_is : raw_sum K P Q tile d (raw d k l) ≡ sample (l * P + k)
    bin_is =
        let within = support_within k l alone.here in
        let e₁ : equal (raw d ((l * P + k) % P) ((l * P + k) / P)) (raw d k l) ≡ true =
        at_cell P Q (λ i j. equal (raw d i j) (raw d k l) ≡ true) k l within.0 (equal_same (raw d k l)) in
        let e₂ : sample_at K P tile d (raw d k l) (l * P + k) ≡ sample (l * P + k) = cond-true _ (sample (l * P + k)) K.zero e₁ in
        sum_of_one K (P * Q) (sample_at K P tile d (raw d k l)) (l * P + k) (cell_below P Q k l within.0 within.1) others ∙ e₂

  module _ (ds : List Direction) (laws : LawfulDirections ds) (vanishes : Vanishes K P Q ds tile) where
    clash : Peelable ds support → ⊥
    clash w =
        let within = support_within w.k w.l w.alone.here in
        let law : lawful w.d ≡ true = all-has (λ d. lawful d ≡ true) ds w.d (all_lawful_is ds laws.each) w.listed in
        let at = raw_in_range P Q w.d law w.k w.l within.0 within.1 in
        let zero-sum : bin_sum K P Q tile w.d at.b ≡ K.zero =
        all-has (λ d. (b : ℕ) → b < bins P Q d → bin_sum K P Q tile d b ≡ K.zero) ds w.d vanishes w.listed at.b at.inside in
        not_zero w.k w.l w.alone.here
        (sym (bin_is w.d w.k w.l w.alone) ∙ ap (λ (r : ℤ). raw_sum K P Q tile w.d r) at.same ∙ zero-sum)

    -- Under the criterion a tile that vanishes is zero.
    pub zero_tile : Criterion P Q ds → (c : ℕ) → c < P * Q → get_or tile c K.zero ≡ K.zero
    zero_tile criterion c b = go (cases_Bool (K.equal (sample c) K.zero))
      where
        go : (K.equal (sample c) K.zero ≡ true) ⊎ (K.equal (sample c) K.zero ≡ false) → sample c ≡ K.zero
        go (inl e) = K.laws.equal_same (sample c) K.zero e
        go (inr e) =
            absurd (clash (peels P Q ds support laws criterion support_within (record { k = c % P; l = c / P; here = supported c b e })))
