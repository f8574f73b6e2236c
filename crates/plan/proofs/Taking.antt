-- One step of the ghost in place, cell by cell from the last one down.
use Rattle.std.proofs.Common.{◌≡◌, ℕ, zero, suc, ◌+◌, ◌-◌, ◌*◌, ◌/◌, ◌%◌, ◌<◌, ◌≤◌, Bool, true, false, cond, ◌&&◌, ◌⊎◌, List, length, get_or, drop, set, pos, negsuc, ◌-ℤ◌, sym, refl, ap, ◌∙◌, subst, ap₂, inl, inr, arith}
use Rattle.std.proofs.lemmas.Nat.{div-add-mod', div_below}
use Rattle.std.proofs.lemmas.List.{get_or_read, get_or-set_same, get_or-set_other, drop-set-lt}
use Rattle.std.proofs.lemmas.Int.{ints}
use Rattle.std.proofs.lemmas.Bool.{cases_eq, cases_lt, lt-ltb, le-ltb, and_from, and_left, and_right, cond-true, cond-false}
use Rattle.samples.specs.declared.kind.Kind.{Ghosts as Operations}
use Rattle.mojette.specs.declared.direction.Direction.{Direction}
use Rattle.mojette.specs.Directions.{lawful}
use Rattle.katz.specs.Made.{below, cell_of, minus, step}
use Rattle.katz.proofs.Lawful.{lawful_is}
use Rattle.katz.proofs.Pixels.{column_below, cell_below, at_cell}
use Rattle.katz.proofs.Sums.{minus_zero}
use Rattle.plan.specs.declared.places.Place.{Place}
use Rattle.plan.specs.Laid.{signed, direction_of}
use Rattle.plan.specs.Pictures.{picture_of}
use Rattle.plan.proofs.Shows.{shows}

-- A pixel takes from an earlier cell.
far_enough : (s q P : ℕ) → (pos q ≡ pos 0 → signed true s ≡ pos 1) → s < P → s ≤ q * P
far_enough zero q P level h = omega arith
far_enough (suc s) zero P level h = let e = level refl in let z : ◌≡◌ {A = ℕ} 0 1 = cc in absurd (omega arith)
far_enough (suc s) (suc q) P level h = omega arith

pub back_fits : (x : Place) (P : ℕ) → lawful (direction_of x) ≡ true → x.slope < P → x.leftward ≡ true → x.slope ≤ x.q * P
back_fits x P law h e =
    far_enough x.slope x.q P (λ level. ap (λ t. signed t x.slope) (sym e) ∙ (lawful_is (direction_of x) law).level level) h

-- Where a pixel takes from ----------------------------------------------------------------------------------------------

to_right : (k s : ℕ) → pos k -ℤ signed true s ≡ pos (k + s)
to_right k zero = omega (arith, ints)
to_right k (suc s) = omega (arith, ints)

to_left : (k s : ℕ) → s ≤ k → pos k -ℤ pos s ≡ pos (k - s)
to_left k s h = omega (arith, ints)

out_left : (n k s : ℕ) → k < s → below n (pos k -ℤ pos s) ≡ false
out_left n k s h = let e : pos k -ℤ pos s ≡ negsuc (s - k - 1) = omega (arith, ints) in ap (below n) e

rows_apart : (l q P : ℕ) → q ≤ l → (l - q) * P + q * P ≡ l * P
rows_apart l q P h = let e : l - q + q ≡ l = omega arith in let m = ap (λ i. i * P) e in omega arith

module _ {S : Type 0} (K : Operations S) (P Q : ℕ) where
  -- What a step makes of the cells: a pixel in the rows from q on and in the columns from first to before last takes the cell
  -- that stands `back` cells before its own, and the others stay.
  pub record StepOf (q first last back : ℕ) (old : List S) (f : ℕ → S) : Type 0 where
    pub inside : last ≤ P
    pub earlier : (k l : ℕ) → first ≤ k → q ≤ l → back ≤ l * P + k
    pub takes : (k l : ℕ) → first ≤ k → k < last → q ≤ l → l < Q → f (l * P + k) ≡ minus K (get_or old (l * P + k) K.zero) (get_or old (l * P + k - back) K.zero)
    pub stays : (k l : ℕ) → k < P → l < Q → (l < q) ⊎ ((k < first) ⊎ (last ≤ k)) → f (l * P + k) ≡ get_or old (l * P + k) K.zero

  module _ (leftward : Bool) (s q : ℕ) (old : List S) where
    abbrev d : Direction
    d = record { p = signed leftward s; q = pos q }

    abbrev new : ℕ → S
    new = cell_of P (step K P Q d (picture_of K P Q old))

    new_at : (k l : ℕ) → k < P → l < Q → new (l * P + k) ≡ minus K (get_or old (l * P + k) K.zero) (picture_of K P Q old (pos k -ℤ d.p) (pos l -ℤ d.q))
    new_at k l h h' =
        at_cell P Q (λ i j. step K P Q d (picture_of K P Q old) (pos i) (pos j) ≡ minus K (get_or old (l * P + k) K.zero) (picture_of K P Q old (pos k -ℤ d.p) (pos l -ℤ d.q))) k l h
        (cond-true _ _ K.zero in_tile ∙ ap (λ z. minus K z (picture_of K P Q old (pos k -ℤ d.p) (pos l -ℤ d.q))) (cond-true _ _ K.zero in_tile))
      where
        in_tile : below P (pos k) && below Q (pos l) ≡ true
        in_tile = and_from _ _ (lt-ltb k P h) (lt-ltb l Q h')

    taken : (k l m n c : ℕ) → k < P → l < Q → m < P → n < Q → pos k -ℤ d.p ≡ pos m → pos l -ℤ d.q ≡ pos n → n * P + m ≡ c
        → new (l * P + k) ≡ minus K (get_or old (l * P + k) K.zero) (get_or old c K.zero)
    taken k l m n c h h' b b' e e' is =
        new_at k l h h'
        ∙ ap (minus K (get_or old (l * P + k) K.zero))
        (ap₂ (picture_of K P Q old) e e' ∙ cond-true _ _ K.zero (and_from _ _ (lt-ltb m P b) (lt-ltb n Q b')) ∙ ap (λ i. get_or old i K.zero) is)

    kept : (k l : ℕ) → k < P → l < Q → below P (pos k -ℤ d.p) && below Q (pos l -ℤ d.q) ≡ false → new (l * P + k) ≡ get_or old (l * P + k) K.zero
    kept k l h h' out = new_at k l h h' ∙ minus_zero K _ _ (cond-false _ _ K.zero out)

    kept_above : (k l : ℕ) → k < P → l < Q → l < q → new (l * P + k) ≡ get_or old (l * P + k) K.zero
    kept_above k l h h' b = kept k l h h' (and_right (below P (pos k -ℤ d.p)) _ (out_left Q l q b))

    kept_beside : (k l : ℕ) → k < P → l < Q → below P (pos k -ℤ d.p) ≡ false → new (l * P + k) ≡ get_or old (l * P + k) K.zero
    kept_beside k l h h' out = kept k l h h' (and_left (below P (pos k -ℤ d.p)) (below Q (pos l -ℤ d.q)) out)

  -- the same for both signs of p
  step_of_signed :
      (leftward : Bool) (s q first last back : ℕ) (old : List S) → first ≡ cond leftward 0 s → last ≡ cond leftward (P - s) P
      → back ≡ cond leftward (q * P - s) (q * P + s) → s < P → (leftward ≡ true → s ≤ q * P)
      → StepOf q first last back old (cell_of P (step K P Q (record { p = signed leftward s; q = pos q }) (picture_of K P Q old)))
  step_of_signed true s q first last back old e₁ e₂ e₃ h far =
      record {
        inside = omega arith;
        earlier = λ k l a a'. let rows = rows_apart l q P a' in omega arith;
        takes = λ k l a b a' b'.
            let far = far refl in
            let rows = rows_apart l q P a' in
            taken true s q old k l (k + s) (l - q) (l * P + k - back) (omega arith) b' (omega arith) (omega arith) (to_right k s) (to_left l q a') (omega arith);
        stays = go;
      }
    where
      go : (k l : ℕ) → k < P → l < Q → (l < q) ⊎ ((k < first) ⊎ (last ≤ k)) → new true s q old (l * P + k) ≡ get_or old (l * P + k) K.zero
      go k l a b (inl o) = kept_above true s q old k l a b o
      go k l a b (inr (inl o)) = absurd (omega arith)
      go k l a b (inr (inr o)) = kept_beside true s q old k l a b (ap (below P) (to_right k s) ∙ le-ltb (k + s) P (omega arith))
  step_of_signed false s q first last back old e₁ e₂ e₃ h far =
      record {
        inside = omega arith;
        earlier = λ k l a a'. let rows = rows_apart l q P a' in omega arith;
        takes = λ k l a b a' b'.
            let rows = rows_apart l q P a' in
            taken false s q old k l (k - s) (l - q) (l * P + k - back) (omega arith) b' (omega arith) (omega arith) (to_left k s (omega arith)) (to_left l q a') (omega arith);
        stays = go;
      }
    where
      go : (k l : ℕ) → k < P → l < Q → (l < q) ⊎ ((k < first) ⊎ (last ≤ k)) → new false s q old (l * P + k) ≡ get_or old (l * P + k) K.zero
      go k l a b (inl o) = kept_above false s q old k l a b o
      go k l a b (inr (inl o)) = kept_beside false s q old k l a b (out_left P k s (omega arith))
      go k l a b (inr (inr o)) = absurd (omega arith)

  -- what the step of a place makes of the cells
  abbrev pub stepped : Place → List S → ℕ → S
  stepped x old = cell_of P (step K P Q (direction_of x) (picture_of K P Q old))

  pub step_of :
      (x : Place) (first last back : ℕ) (old : List S) → first ≡ cond x.leftward 0 x.slope → last ≡ cond x.leftward (P - x.slope) P
      → back ≡ cond x.leftward (x.q * P - x.slope) (x.q * P + x.slope) → lawful (direction_of x) ≡ true → x.slope < P
      → StepOf x.q first last back old (stepped x old)
  step_of x first last back old e₁ e₂ e₃ law h =
      step_of_signed x.leftward x.slope x.q first last back old e₁ e₂ e₃ h (back_fits x P law h)

  -- The walk --------------------------------------------------------------------------------------------------------------

  -- The cells of the tile from n on hold f, and the others what they held.
  pub record DownTo (f : ℕ → S) (old : List S) (n : ℕ) (new : List S) : Type 0 where
    pub done : (c : ℕ) → n ≤ c → c < P * Q → get_or new c K.zero ≡ f c
    pub rest : (c : ℕ) → c < n → get_or new c K.zero ≡ get_or old c K.zero
    pub others : drop (P * Q) new ≡ drop (P * Q) old

  module _ (f : ℕ → S) (old : List S) (new : List S) where
    -- cells that stay
    skipped : (n m : ℕ) → n ≤ m → ((c : ℕ) → n ≤ c → c < m → c < P * Q → f c ≡ get_or old c K.zero) → DownTo f old m new → DownTo f old n new
    skipped n m h same walk = record { done = λ c a b. go c a b (cases_lt c m); rest = λ c a. walk.rest c (omega arith); others = walk.others }
      where
        go : (c : ℕ) → n ≤ c → c < P * Q → (c < m) ⊎ (m ≤ c) → get_or new c K.zero ≡ f c
        go c a b (inl o) = walk.rest c o ∙ sym (same c a o b)
        go c a b (inr o) = walk.done c o b

    written : (c : ℕ) (v : S) → c < P * Q → c < length new → v ≡ f c → DownTo f old (c + 1) new → DownTo f old c (set new c v)
    written c v inside room e walk =
        record {
          done = λ i a b. go i a b (cases_eq i c);
          rest = λ i a. get_or-set_other new c i v K.zero (omega arith) ∙ walk.rest i (omega arith);
          others = drop-set-lt (P * Q) new c v inside ∙ walk.others;
        }
      where
        go : (i : ℕ) → c ≤ i → i < P * Q → (i ≡ c) ⊎ (i ≡ c → ⊥) → get_or (set new c v) i K.zero ≡ f i
        go i a b (inl is) = ap (λ n. get_or (set new c v) n K.zero) is ∙ get_or-set_same new c v K.zero room ∙ e ∙ ap f (sym is)
        go i a b (inr ne) = get_or-set_other new c i v K.zero ne ∙ walk.done i (omega arith) b

    module _ (q first last back : ℕ) (s : StepOf q first last back old f) where
      -- in a row, the columns that stay
      stay_in_row :
          (l k k' : ℕ) → l < Q → k ≤ k' → k' ≤ P → ((i : ℕ) → k ≤ i → i < k' → (i < first) ⊎ (last ≤ i))
          → DownTo f old (l * P + k') new → DownTo f old (l * P + k) new
      stay_in_row l k k' h a b out walk = skipped (l * P + k) (l * P + k') (omega arith) same walk
        where
          same : (c : ℕ) → l * P + k ≤ c → c < l * P + k' → c < P * Q → f c ≡ get_or old c K.zero
          same c a₁ a₂ a₃ =
              let is : l * P + (c - l * P) ≡ c = omega arith in
              subst (λ n. f n ≡ get_or old n K.zero) is (s.stays (c - l * P) l (omega arith) h (inr (out (c - l * P) (omega arith) (omega arith))))

      pub row_begins : (l n : ℕ) → n ≡ l + 1 → l < Q → DownTo f old (n * P) new → DownTo f old (l * P + last) new
      row_begins l n is h walk =
          let e : n * P ≡ l * P + P = let m = ap (λ i. i * P) is in omega arith in
          stay_in_row l last P h s.inside (omega arith) (λ i a b. inr a) (subst (λ m. DownTo f old m new) e walk)

      pub row_ends : (l k : ℕ) → l < Q → k ≤ first → k ≤ last → DownTo f old (l * P + k) new → DownTo f old (l * P) new
      row_ends l k h a b walk =
          let e : l * P + 0 ≡ l * P = omega arith in
          subst (λ m. DownTo f old m new) e (stay_in_row l 0 k h (omega arith) (omega (arith, s.inside)) (λ i _ o. inl (omega arith)) walk)

      pub rows_end : (l : ℕ) → l ≤ q → l ≤ Q → DownTo f old (l * P) new → DownTo f old 0 new
      rows_end l a b walk = skipped 0 (l * P) (omega arith) same walk
        where
          same : (c : ℕ) → 0 ≤ c → c < l * P → c < P * Q → f c ≡ get_or old c K.zero
          same c a₁ a₂ a₃ =
              let column = column_below P Q c a₃ in
              let row = div_below c P l (omega arith) a₂ in
              subst (λ n. f n ≡ get_or old n K.zero) (div-add-mod' c P) (s.stays (c % P) (c / P) column (omega arith) (inl (omega arith)))

      -- One pixel: it takes from a cell that still holds the old sample.
      pub pixel_taken :
          (k l j cell : ℕ) (a b v : S) → j ≡ k + 1 → first ≤ k → k < last → q ≤ l → l < Q → P * Q ≤ length new → cell ≡ l * P + k
          → a ≡ get_or new cell a → b ≡ get_or new (cell - back) b → v ≡ minus K a b
          → DownTo f old (l * P + j) new → DownTo f old (l * P + k) (set new cell v)
      pixel_taken k l j cell a b v next h₁ h₂ h₃ h₄ room is read_a read-b value walk =
          let inside = cell_below P Q k l (omega (arith, s.inside)) h₄ in
          let here : DownTo f old (l * P + k + 1) new = subst (λ m. DownTo f old m new) (omega arith) walk in
          let at : cell < length new = omega arith in
          let from : cell - back < length new = omega arith in
          let e₁ = get_or_read new cell a at read_a K.zero in
          let e₂ = get_or_read new (cell - back) b from read-b K.zero in
          let e₃ = here.rest cell (omega arith) in
          let e₄ = here.rest (cell - back) (omega arith) in
          let e₅ = s.takes k l h₁ h₂ h₃ h₄ in
          subst (λ n. DownTo f old (l * P + k) (set new n v)) (sym is) (written (l * P + k) v inside (omega arith) (cc) here)

  -- At the end the cells show the step.
  pub walk_shows : (x : Place) (old new : List S) → DownTo (stepped x old) old 0 new → picture_of K P Q new ≡ step K P Q (direction_of x) (picture_of K P Q old)
  walk_shows x old new walk = shows K P Q (step K P Q (direction_of x) (picture_of K P Q old)) new (λ k l t. cond-false _ _ K.zero t) (λ c h. walk.done c (omega arith) h)
