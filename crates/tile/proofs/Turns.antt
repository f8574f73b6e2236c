-- One turn of the loop that takes v off the bins of a pixel, place after place.
use Rattle.std.proofs.Common.{◌≡◌, ℕ, ◌+◌, ◌-◌, ◌<◌, ◌≤◌, ◌==◌, true, false, ◌&&◌, List, length, sym, ap, ◌∙◌, subst, subst₂, arith}
use Rattle.samples.specs.declared.kind.Kind.{Ghosts as Operations}
use Rattle.mojette.specs.Bins.{in_bin}
use Rattle.mojette.specs.Meaning.{bins_of}
use Rattle.peeling.specs.Steps.{World, take_off, take_off_all}
use Rattle.peeling.proofs.Bridges.{none_off, one_off}
use Rattle.plan.specs.declared.places.Place.{Place}
use Rattle.plan.specs.declared.plan.Plan.{Plan}
use Rattle.plan.specs.Laid.{direction_of, place_at}
use Rattle.plan.specs.Shapes.{shape, places_of}
use Rattle.law.specs.Positions.{incidence}
use Rattle.walk.specs.declared.pixel.Pixel.{Pixel}
use Rattle.walk.specs.Finding.{OfTile}
use Rattle.walk.specs.Lying.{starts, Lies, LiesWherever}
use Rattle.walk.proofs.Laying.{start_is, next_is, lies_is, Turn}

module _ (plan : Plan) (i : ℕ) (l : i < length (places_of plan)) where
  pub next_start : starts plan (i + 1) ≡ starts plan i + (place_at (places_of plan) i).bins
  next_start = next_is plan i l ∙ ap (λ n. n + (place_at (places_of plan) i).bins) (start_is plan i l)

  -- no pixel lies in a lost place
  pub none_lies : ((place_at (places_of plan) i).cause == 0) ≡ false → (c b : ℕ) → starts plan i ≤ b → b < starts plan (i + 1) → (incidence (shape plan)).lies c b ≡ false
  none_lies lost c b low high =
      let here : (place_at (places_of plan) i).start + (b - starts plan i) ≡ b = omega (arith, start_is plan i l) in
      ap ((incidence (shape plan)).lies c) (sym here) ∙ lies_is plan i l (b - starts plan i) (omega (arith, next_start)) c
      ∙ ap (λ t. t && in_bin plan.size.columns plan.size.rows (direction_of (place_at (places_of plan) i)) c (b - starts plan i)) lost

module _ {S : Type 0} (K : Operations S) (plan : Plan) (c : ℕ) (v : S) (w : World S) (i : ℕ) (l : i < length (places_of plan)) where
  -- v is taken off the bins below n
  abbrev off : ℕ → World S
  off n = take_off_all K (incidence (shape plan)) c v n w

  -- the positions of place i
  size : ℕ
  size = (place_at (places_of plan) i).bins

  next : starts plan (i + 1) ≡ starts plan i + size
  unfolding size
  next = next_start plan i l

  -- a whole place: v is taken off the pixel's bin there
  off_whole : (at : ℕ) → Lies plan i c at → (place_at (places_of plan) i).cause ≡ 0 →
      take_off K (bins_of (shape plan)) v at (off (starts plan i)) ≡ off (starts plan (i + 1))
  off_whole at lies e =
      let here : starts plan i + (at - starts plan i) ≡ at = omega (arith, lies.from) in
      ap (λ n. take_off K (bins_of (shape plan)) v n (off (starts plan i))) (sym here)
      ∙ sym (ap off next ∙ one_off K (incidence (shape plan)) c v w (starts plan i) size (at - starts plan i) (omega (arith, lies.from, lies.below, next))
      (subst (λ n. (incidence (shape plan)).lies c n ≡ true) (sym here) (lies.there e))
      (λ b low high ne. lies.only b low (omega (arith, next)) (λ s. ne (s ∙ sym here))))

  -- a lost place: nothing
  off_lost : ((place_at (places_of plan) i).cause == 0) ≡ false → off (starts plan i) ≡ off (starts plan (i + 1))
  unfolding size
  off_lost lost =
      sym (ap off next ∙ none_off K (incidence (shape plan)) c v w (starts plan i) size (λ b low high. none_lies plan i l lost c b low (omega (arith, next))))

  -- from the world u before the turn to the world after it
  module _ (u after : World S) (so_far : u ≡ off (starts plan i)) where
    pub whole_turn : (at : ℕ) → Lies plan i c at → (place_at (places_of plan) i).cause ≡ 0 →
        (u' : World S) → u' ≡ take_off K (bins_of (shape plan)) v at u → after ≡ u' → after ≡ off (starts plan (i + 1))
    whole_turn at lies e u' taken same = same ∙ taken ∙ ap (take_off K (bins_of (shape plan)) v at) so_far ∙ off_whole at lies e

    pub lost_turn : ((place_at (places_of plan) i).cause == 0) ≡ false → after ≡ u → after ≡ off (starts plan (i + 1))
    lost_turn lost same = same ∙ so_far ∙ off_lost lost

-- where the code finds the bin of a pixel at a turn
pub lies_here : (plan : Plan) (ys : List Place) (i : ℕ) (x : Pixel) (first b P Q : ℕ) → Turn plan ys i → P ≡ plan.size.columns → Q ≡ plan.size.rows →
    OfTile plan.size.columns plan.size.rows x → first ≡ starts plan i → LiesWherever P Q (place_at ys i) x b → Lies plan i x.cell (first + b)
lies_here plan ys i x first b P Q t e f on is lies =
    subst (λ n. Lies plan i x.cell (n + b)) (sym is)
    (lies plan (sym e) (sym f) i t.known (sym t.same) (subst₂ (λ m n. OfTile m n x) (sym e) (sym f) on))
