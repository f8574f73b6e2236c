-- Under Katz's criterion every nonempty set of pixels has one that is alone in its bin: the set would span the tile otherwise.
use Rattle.std.proofs.Common.{◌≡◌, ℕ, suc, ◌<◌, true, false, ◌⊎◌, List, [], ◌∷◌, refl, inl, inr, arith}
use lib.IntN.{ℤ_discrete}
use Rattle.std.proofs.lemmas.Bool.{both_ways, cases_Bool, cases_eq}
use Rattle.std.specs.List.{AllByRecursion}
use Rattle.mojette.specs.declared.direction.Direction.{Direction}
use Rattle.mojette.specs.Bins.{raw}
use Rattle.katz.specs.Sets.{Pixels, Within, Partner, Paired, Alone, Peelable, Peels}
use Rattle.katz.proofs.Pixels.{search_pixels}
use Rattle.katz.proofs.Span.{spans}

module _ (P Q : ℕ) (S : Pixels) (inside : Within P Q S) where
  partner_or_alone : (d : Direction) (k l : ℕ) → S k l ≡ true → Partner S d k l ⊎ Alone S d k l
  partner_or_alone d k l here = go (search_pixels P Q Itself Another (λ k' l' h h'. sort k' l'))
    where
      Itself : ℕ → ℕ → Type 0
      Itself k' l' = S k' l' ≡ true → raw d k' l' ≡ raw d k l → (k' ≡ k) × (l' ≡ l)

      Another : ℕ → ℕ → Type 0
      Another k' l' = (S k' l' ≡ true) × (raw d k' l' ≡ raw d k l) × (¬ ((k' ≡ k) × (l' ≡ l)))

      sort : (k' l' : ℕ) → Itself k' l' ⊎ Another k' l'
      sort k' l' = by (cases_Bool (S k' l')) (ℤ_discrete (raw d k' l') (raw d k l)) (cases_eq k' k) (cases_eq l' l)
        where
          by :
              (S k' l' ≡ true) ⊎ (S k' l' ≡ false) → Dec (raw d k' l' ≡ raw d k l) → (k' ≡ k) ⊎ (k' ≡ k → ⊥) → (l' ≡ l) ⊎ (l' ≡ l → ⊥)
              → Itself k' l' ⊎ Another k' l'
          by (inr out) b ek el = inl (λ h. absurd (both_ways (S k' l') out h))
          by (inl h) (no b) ek el = inl (λ _ e. absurd (b e))
          by (inl h) (yes b) (inl ek) (inl el) = inl (λ _ _. (ek, el))
          by (inl h) (yes b) (inr nk) el = inr (h, b, λ e. nk e.0)
          by (inl h) (yes b) (inl ek) (inr nl) = inr (h, b, λ e. nl e.1)

      go : ((k' l' : ℕ) → k' < P → l' < Q → Itself k' l') ⊎ ((k' : ℕ) × (l' : ℕ) × Another k' l') → Partner S d k l ⊎ Alone S d k l
      go (inl all) =
          inr (record { here = here; only = λ k' l' h. let within = inside k' l' h in all k' l' within.0 within.1 h })
      go (inr w) = inl (record { k' = w.0; l' = w.1; here = w.2.0; same_bin = w.2.1; other = w.2.2 })

  paired_or_alone : (d : Direction) → Paired S d ⊎ ((k : ℕ) × (l : ℕ) × Alone S d k l)
  paired_or_alone d =
      go (search_pixels P Q (λ k l. S k l ≡ true → Partner S d k l) (Alone S d) (λ k l h h'. by k l (cases_Bool (S k l))))
    where
      by : (k l : ℕ) → (S k l ≡ true) ⊎ (S k l ≡ false) → (S k l ≡ true → Partner S d k l) ⊎ Alone S d k l
      by k l (inr out) = inl (λ h. absurd (both_ways (S k l) out h))
      by k l (inl h) = or (partner_or_alone d k l h)
        where
          or : Partner S d k l ⊎ Alone S d k l → (S k l ≡ true → Partner S d k l) ⊎ Alone S d k l
          or (inl p) = inl (λ _. p)
          or (inr a) = inr a

      go :
          ((k l : ℕ) → k < P → l < Q → S k l ≡ true → Partner S d k l) ⊎ ((k : ℕ) × (l : ℕ) × Alone S d k l)
          → Paired S d ⊎ ((k : ℕ) × (l : ℕ) × Alone S d k l)
      go (inl all) = inl (λ k l h. let within = inside k l h in all k l within.0 within.1 h)
      go (inr w) = inr w

  paired_or_peelable : (ds : List Direction) → AllByRecursion (Paired S) ds ⊎ Peelable ds S
  paired_or_peelable [] = inl tt
  paired_or_peelable (d ∷ ds) = go (paired_or_alone d) (paired_or_peelable ds)
    where
      go : Paired S d ⊎ ((k : ℕ) × (l : ℕ) × Alone S d k l) → AllByRecursion (Paired S) ds ⊎ Peelable ds S → AllByRecursion (Paired S) (d ∷ ds) ⊎ Peelable (d ∷ ds) S
      go (inr w) rest = inr (record { d = d; k = w.0; l = w.1; listed = (0, omega arith, λ _. refl); alone = w.2 })
      go (inl p) (inl ps) = inl (p, ps)
      go (inl p) (inr w) =
          inr (record { d = w.d; k = w.k; l = w.l; listed = (suc w.listed.0, omega (arith, w.listed.1), w.listed.2); alone = w.alone })

pub peels : Peels
peels P Q ds S laws criterion inside some = go (paired_or_peelable P Q S inside ds)
  where
    go : AllByRecursion (Paired S) ds ⊎ Peelable ds S → Peelable ds S
    go (inr w) = w
    go (inl paired) =
        let s = spans P Q ds S laws inside some paired in
        let c = inside s.0.k' s.0.l' s.0.there in
        let r = inside s.1.k' s.1.l' s.1.there in
        absurd (omega (arith, criterion, s.0.apart, s.1.apart))
