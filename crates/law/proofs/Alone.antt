-- Under Katz's criterion every set of pixels that is not empty has one that is alone in its bin, at some position.
use Rattle.std.proofs.Common.{◌≡◌, ℕ, zero, suc, ◌+◌, ◌*◌, ◌/◌, ◌%◌, ◌<◌, Bool, true, false, cond, ◌&&◌, ltb, List, [], ◌∷◌, length, get_or, sym, refl, ap, ◌∙◌, subst, ap₂, arith}
use Rattle.std.specs.List.{ContainsAt as Has}
use Rattle.std.proofs.lemmas.Nat.{div-add-mod'}
use Rattle.std.proofs.ByRecursion.{all-has}
use Rattle.std.proofs.lemmas.Bool.{and_parts, and_from, ltb-true, lt-ltb}
use Rattle.mojette.specs.declared.direction.Direction.{Direction}
use Rattle.mojette.specs.declared.direction.Record.{Record}
use Rattle.mojette.specs.Bins.{raw, raw_of, bins, in_bin, whole, all_bins, whole_directions}
use Rattle.mojette.specs.Directions.{equal, lawful, LawfulDirections}
use Rattle.mojette.proofs.Equal.{equal_true, equal_same}
use Rattle.katz.specs.Sets.{Pixels, Within, Peelable, Criterion}
use Rattle.katz.proofs.Lawful.{all_lawful_is}
use Rattle.katz.proofs.Peel.{peels}
use Rattle.katz.proofs.Pixels.{column_below, row_below, cell_below, at_cell}
use Rattle.katz.proofs.Ranges.{BinOf, raw_in_range}
use Rattle.peeling.specs.Counting.{number}
use Rattle.peeling.specs.Incidence.{OneMissing}
use Rattle.peeling.proofs.Counts.{number_one}
use Rattle.law.specs.Positions.{lies_at, incidence}
use Rattle.law.proofs.Places.{B, lies_here, lies_there}

module _ (P Q : ℕ) where
  -- bin b of a whole place's direction has a position
  record Position (es : List Record) (d : Direction) (b : ℕ) : Type 0 where
    x : ℕ
    inside : x < all_bins P Q es
    lies : (c : ℕ) → lies_at P Q es c x ≡ in_bin P Q d c b

  beyond_first : (e : Record) (es : List Record) (d : Direction) (b : ℕ) → Position es d b → Position (e ∷ es) d b
  beyond_first e es d b p = record { x = B P Q e + p.x; inside = omega (arith, p.inside); lies = λ c. lies_there P Q e es c p.x ∙ p.lies c }

  position : (es : List Record) (d : Direction) → Has (whole_directions es) d → (b : ℕ) → b < bins P Q d → Position es d b
  position [] d has b l = absurd (omega (arith, has.1))
  position (e ∷ es) d has b l = go (whole e) refl has (position es d)
    where
      first : whole e ≡ true → e.direction ≡ d → Position (e ∷ es) d b
      first w same =
          let l' : b < B P Q e = subst (λ f. b < bins P Q f) (sym same) l in
          record {
            x = b;
            inside = omega arith;
            lies = λ c.
                lies_here P Q e es c b l' ∙ ap (λ t. t && in_bin P Q e.direction c b) w ∙ ap (λ f. in_bin P Q f c b) same;
          }

      later : (k : ℕ) → k < suc (length (whole_directions es)) → ((o : Direction) → get_or (e.direction ∷ whole_directions es) k o ≡ d) → whole e ≡ true →
          (Has (whole_directions es) d → (b : ℕ) → b < bins P Q d → Position es d b) → Position (e ∷ es) d b
      later zero k at w rest = first w (at d)
      later (suc i) k at w rest = beyond_first e es d b (rest (i, omega arith, at) b l)

      go : (t : Bool) → whole e ≡ t → Has (cond t (e.direction ∷ whole_directions es) (whole_directions es)) d →
          (Has (whole_directions es) d → (b : ℕ) → b < bins P Q d → Position es d b) → Position (e ∷ es) d b
      go true w has rest = later has.0 has.1 has.2 w rest
      go false w has rest = beyond_first e es d b (rest has b l)

  module _ (es : List Record) (laws : LawfulDirections (whole_directions es)) (criterion : Criterion P Q (whole_directions es)) where
    -- a set of cells as a set of pixels
    picked : (ℕ → Bool) → Pixels
    picked set k l = ltb k P && (ltb l Q && set (l * P + k))

    picked_within : (set : ℕ → Bool) → Within P Q (picked set)
    unfolding picked
    picked_within set k l h =
        let e = and_parts (ltb k P) _ h in
        (ltb-true k P e.0, ltb-true l Q (and_parts (ltb l Q) _ e.1).0)

    picked_set : (set : ℕ → Bool) (k l : ℕ) → picked set k l ≡ true → set (l * P + k) ≡ true
    unfolding picked
    picked_set set k l h = (and_parts (ltb l Q) _ (and_parts (ltb k P) _ h).1).1

    pick : (set : ℕ → Bool) (c : ℕ) → c < P * Q → set c ≡ true → picked set (c % P) (c / P) ≡ true
    unfolding picked
    pick set c l h =
        and_from _ _ (lt-ltb (c % P) P (column_below P Q c l))
        (and_from _ _ (lt-ltb (c / P) Q (row_below P Q c l)) (rw (div-add-mod' c P) h))

    alone_at : (set : ℕ → Bool) → (w : Peelable (whole_directions es) (picked set)) →
        (x : ℕ) × (x < all_bins P Q es) × (number (P * Q) (λ c. lies_at P Q es c x && set c) ≡ 1)
    alone_at set w = (at.x, at.inside, number_one (P * Q) (λ c. lies_at P Q es c at.x && set c) (w.l * P + w.k) (cell_below P Q w.k w.l within.0 within.1) passes only)
      where
        within : (w.k < P) × (w.l < Q)
        within = picked_within set w.k w.l w.alone.here

        law : lawful w.d ≡ true
        law = all-has (λ d. lawful d ≡ true) (whole_directions es) w.d (all_lawful_is (whole_directions es) laws.each) w.listed

        bin : BinOf P Q w.d w.k w.l
        bin = raw_in_range P Q w.d law w.k w.l within.0 within.1

        at : Position es w.d bin.b
        at = position es w.d w.listed bin.b bin.inside

        passes : (lies_at P Q es (w.l * P + w.k) at.x && set (w.l * P + w.k)) ≡ true
        passes = and_from _ _
            (at.lies (w.l * P + w.k)
            ∙ at_cell P Q (λ i j. equal (raw w.d i j) (raw_of P Q w.d bin.b) ≡ true) w.k w.l within.0
            (subst (λ z. equal (raw w.d w.k w.l) z ≡ true) bin.same (equal_same (raw w.d w.k w.l))))
            (picked_set set w.k w.l w.alone.here)

        only : (i : ℕ) → i < P * Q → (lies_at P Q es i at.x && set i) ≡ true → i ≡ w.l * P + w.k
        only i l h =
            let parts = and_parts (lies_at P Q es i at.x) (set i) h in
            let there = pick set i l parts.1 in
            let same : raw w.d (i % P) (i / P) ≡ raw_of P Q w.d bin.b = equal_true _ _ (sym (at.lies i) ∙ parts.0) in
            let is = w.alone.only (i % P) (i / P) there (same ∙ sym bin.same) in
            sym (div-add-mod' i P) ∙ ap₂ (λ (m n : ℕ). m * P + n) is.1 is.0

    pub one_missing : OneMissing (incidence (record { P = P; Q = Q; records = es }))
    one_missing set c l h =
        alone_at set (peels P Q (whole_directions es) (picked set) laws criterion (picked_within set)
        (record { k = c % P; l = c / P; here = pick set c l h }))
