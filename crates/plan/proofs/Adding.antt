-- One more sample added to the sum of its bin.
use Rattle.std.proofs.Common.{◌≡◌, ℕ, ◌+◌, ◌*◌, ◌<◌, ◌≤◌, true, false, cond, ◌⊎◌, List, ◌++◌, length, get_or, take, drop, set, sym, ap, ◌∙◌, subst, subst₂, inl, inr, add-one, arith, take-append-drop}
use Rattle.std.proofs.lemmas.List.FromFn.{fill_by_all}
use Rattle.std.proofs.lemmas.List.{get_or-set_same, get_or-set_other, get_or-take, get_or_read, length-take-le}
use Rattle.std.proofs.lemmas.Bool.{cases_eq, cases_Bool, cond-true}
use Rattle.samples.specs.declared.kind.Kind.{Ghosts as Operations}
use Rattle.samples.specs.Sums.{sum_below}
use Rattle.mojette.specs.declared.direction.Direction.{Direction}
use Rattle.mojette.specs.Bins.{bins, raw_of, in_bin}
use Rattle.mojette.specs.Transform.{sample_at, bin_sum, projection}
use Rattle.plan.specs.declared.places.Place.{Place}
use Rattle.plan.specs.Laid.{direction_of, bin_number}
use Rattle.plan.specs.Sums.{SumUpTo}
use Rattle.plan.proofs.Cells.{lies_there, lies_only_there}

module _ {S : Type 0} (K : Operations S) where
  pub none_added : (P Q : ℕ) (d : Direction) (picture sums : List S) → ((b : ℕ) → b < bins P Q d → get_or sums b K.zero ≡ K.zero) → SumUpTo K P Q d picture 0 sums
  unfolding sum_below
  none_added P Q d picture sums zeros b h = zeros b h

  module _ (P Q : ℕ) (x : Place) (picture sums : List S) (k l : ℕ) (h : k < P) (h' : l < Q) where
    abbrev d : Direction
    d = direction_of x

    abbrev c : ℕ
    c = l * P + k

    abbrev at : ℕ
    at = bin_number P Q x k l

    -- the sample that cell c adds to bin b
    adds : (b : ℕ) → in_bin P Q d c b ≡ true → sample_at K P picture d (raw_of P Q d b) c ≡ get_or picture c K.zero
    adds b e = cond-true _ (get_or picture c K.zero) K.zero e

    adds_zero : (b : ℕ) → in_bin P Q d c b ≡ false → sample_at K P picture d (raw_of P Q d b) c ≡ K.zero
    adds_zero b e = ap (λ t. cond t (get_or picture c K.zero) K.zero) e

    one_added :
        (old v : S) → old ≡ get_or sums at K.zero → v ≡ K.plus old (get_or picture c K.zero) → at < length sums
        → SumUpTo K P Q d picture c sums → SumUpTo K P Q d picture (c + 1) (set sums at v)
    unfolding sum_below
    one_added old v is-old is-v room sum b inside = go (cases_eq b at) (cases_Bool (in_bin P Q d c b)) ∙ ap (λ n. sum_below K n (sample_at K P picture d (raw_of P Q d b))) (sym (add-one c))
      where
        go :
            (b ≡ at) ⊎ (b ≡ at → ⊥) → (in_bin P Q d c b ≡ true) ⊎ (in_bin P Q d c b ≡ false)
            → get_or (set sums at v) b K.zero ≡ K.plus (sum_below K c (sample_at K P picture d (raw_of P Q d b))) (sample_at K P picture d (raw_of P Q d b) c)
        go (inl e) t =
            let there : in_bin P Q d c b ≡ true = ap (in_bin P Q d c) e ∙ lies_there P Q x k l h h' in
            ap (λ n. get_or (set sums at v) n K.zero) e ∙ get_or-set_same sums at v K.zero room ∙ is-v
            ∙ (λ i. K.plus ((is-old ∙ ap (λ n. get_or sums n K.zero) (sym e) ∙ sum b inside) i) (sym (adds b there) i))
        go (inr ne) (inl t) = absurd (ne (lies_only_there P Q x k l h h' b t))
        go (inr ne) (inr t) =
            get_or-set_other sums at b v K.zero ne ∙ sum b inside
            ∙ sym (K.laws.neutral (sum_below K c (sample_at K P picture d (raw_of P Q d b))))
            ∙ ap (K.plus (sum_below K c (sample_at K P picture d (raw_of P Q d b)))) (sym (adds_zero b t))

    -- the same of the code's own values
    pub sample_added :
        (bin cell : ℕ) (old sample new : S) → bin ≡ at → cell ≡ c → old ≡ get_or sums bin old → sample ≡ get_or picture cell sample
        → new ≡ K.plus old sample → bin < length sums → cell < length picture
        → SumUpTo K P Q d picture c sums → SumUpTo K P Q d picture (l * P + (k + 1)) (set sums bin new)
    sample_added bin cell old sample new is-bin is-cell is-old is-sample is-new room inside sum =
        let e : c + 1 ≡ l * P + (k + 1) = omega arith in
        let value = is-new ∙ ap (K.plus old) (get_or_read picture cell sample inside is-sample K.zero ∙ ap (λ n. get_or picture n K.zero) is-cell) in
        let was = get_or_read sums bin old room is-old K.zero ∙ ap (λ n. get_or sums n K.zero) is-bin in
        subst₂ (λ n j. SumUpTo K P Q d picture n (set sums j new)) e (sym is-bin)
        (one_added old new was value (subst (λ n. n < length sums) is-bin room) sum)

  -- All samples added: the cells are the projection.
  pub all_added :
      (P Q : ℕ) (d : Direction) (picture old new : List S) → bins P Q d ≤ length new → SumUpTo K P Q d picture (P * Q) new
      → drop (bins P Q d) new ≡ drop (bins P Q d) old → new ≡ projection K P Q picture d ++ drop (bins P Q d) old
  all_added P Q d picture old new room sum others =
      sym (take-append-drop (bins P Q d) new)
      ∙ (λ i. fill_by_all (bin_sum K P Q picture d) (take (bins P Q d) new) (bins P Q d) K.zero (length-take-le (bins P Q d) new room) (λ b l. get_or-take (bins P Q d) new b K.zero l ∙ sum b l) i ++ others i)
