-- A set of pixels in which none is alone in any bin reaches over C + 1 columns and R + 1 rows.
use Rattle.std.proofs.Common.{◌≡◌, ℕ, List, [], ◌∷◌, ℤ, pos, ◌+ℤ◌, ◌-ℤ◌, ◌*ℤ◌, neg_ℤ, ◌≤ℤ◌, ◌<ℤ◌, sym, ap, ◌∙◌, subst, arith}
use Rattle.std.proofs.lemmas.Int.{ints}
use Rattle.std.proofs.ByRecursion.{All-weaker}
use Rattle.std.specs.List.{AllByRecursion}
use Rattle.mojette.specs.declared.direction.Direction.{Direction}
use Rattle.mojette.specs.Bins.{raw}
use Rattle.katz.specs.Sets.{Pixels, Within, Nonempty, Paired, Apart, column, row, Spans}
use Rattle.katz.proofs.Integers.{neg_mul}
use Rattle.katz.proofs.Bezout.{Bezout, bezout_coprime, bezout_neg}
use Rattle.katz.proofs.Lawful.{Lawful, each_lawful}
use Rattle.katz.proofs.Edges.{side, Edge, edge}
use Rattle.katz.proofs.Chain.{Forward, spread_columns, spread_rows, x_of, y_of}
use Rattle.katz.proofs.Turns.{along, against, downward, rightward, all_downward, all_rightward, pairwise_downward, pairwise_rightward, total_downward, total_rightward}

side_along : (d : Direction) (k l : ℕ) → side (along d) k l ≡ raw d k l
side_along d k l = go d.p d.q
  where
    go : (p q : ℤ) → p *ℤ pos l -ℤ q *ℤ pos k ≡ neg_ℤ (pos k *ℤ q) +ℤ (pos l *ℤ p)
    go p q = omega (arith, ints)

side_against : (d : Direction) (k l : ℕ) → side (against d) k l ≡ neg_ℤ (raw d k l)
side_against d k l = go d.p d.q
  where
    go : (p q : ℤ) → neg_ℤ p *ℤ pos l -ℤ neg_ℤ q *ℤ pos k ≡ neg_ℤ (neg_ℤ (pos k *ℤ q) +ℤ (pos l *ℤ p))
    go p q = let e₁ = neg_mul p (pos l) in let e₂ = neg_mul q (pos k) in omega (arith, ints)

coprime : (d : Direction) → Lawful d → Bezout d.p d.q (pos 1)
coprime d law = bezout_coprime d.p d.q law.coprime

both : {X : Type 0} (F G : X → Type 0) (xs : List X) → AllByRecursion F xs → AllByRecursion G xs → AllByRecursion (λ x. F x × G x) xs
both F G [] f g = tt
both F G (x ∷ xs) f g = ((f.0, g.0), both F G xs f.1 g.1)

module _ (P Q : ℕ) (S : Pixels) (inside : Within P Q S) (some : Nonempty S) where
  edge_along : (d : Direction) → Lawful d → Paired S d → Edge S (along d)
  edge_along d law paired =
      edge P Q S inside some (along d) (coprime d law)
      (λ k l h.
      let w = paired k l h in
      record { k' = w.k'; l' = w.l'; here = w.here; same = side_along d w.k' w.l' ∙ w.same_bin ∙ sym (side_along d k l); other = w.other })

  edge_against : (d : Direction) → Lawful d → Paired S d → Edge S (against d)
  edge_against d law paired =
      edge P Q S inside some (against d) (bezout_neg d.p d.q (pos 1) (coprime d law))
      (λ k l h.
      let w = paired k l h in
      record { k' = w.k'; l' = w.l'; here = w.here; same = side_against d w.k' w.l' ∙ ap neg_ℤ w.same_bin ∙ sym (side_against d k l); other = w.other })

pub spans : Spans
spans P Q ds S laws inside some paired = (
  subst (Apart S column) (total_rightward ds) (spread_columns S (rightward ds) (pairwise_rightward ds laws) right some),
  subst (Apart S row) (total_downward ds) (spread_rows S (downward ds) (pairwise_downward ds laws) down some),
)
  where
    Both : Direction → Type 0
    Both d = Lawful d × Paired S d

    all : AllByRecursion Both ds
    all = both Lawful (Paired S) ds (each_lawful ds laws.each) paired

    down : AllByRecursion (Forward S y_of) (downward ds)
    down =
        all_downward (Forward S y_of) ds
        (All-weaker Both (λ d. Forward S y_of (along d))
        (λ d h. record { edge = edge_along P Q S inside some d h.0 h.1; forward = h.0.down }) ds all)

    right : AllByRecursion (Forward S x_of) (rightward ds)
    right =
        all_rightward (Forward S x_of) ds
        (All-weaker Both (λ d. d.p <ℤ pos 0 → Forward S x_of (against d))
        (λ d h neg. record { edge = edge_against P Q S inside some d h.0 h.1; forward = omega (arith, ints) }) ds all)
        (All-weaker Both (λ d. pos 0 ≤ℤ d.p → Forward S x_of (along d))
        (λ d h nonneg. record { edge = edge_along P Q S inside some d h.0 h.1; forward = nonneg }) ds all)
