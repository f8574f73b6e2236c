-- The cells of a bin, by columns to the right edge and rows along.
use Rattle.std.proofs.Common.{◌≡◌, ℕ, ◌+◌, ◌-◌, ◌*◌, ◌/◌, ◌%◌, ◌<◌, Bool, true, false, ◌&&◌, eqb, ◌⊎◌, List, get_or, Some, None, Option, IfSome, MatchOption, sym, refl, ap, ◌∙◌, subst, ap₂, inl, inr, arith}
use Rattle.std.proofs.lemmas.Nat.{div-add-mod', mod-mul-add, div-mul-add}
use Rattle.std.proofs.lemmas.Bool.{and_parts, and_from, cond-true, cond-false, eqb-true, eq-eqb, ne_eqb, cases_eq, cases_Bool}
use Rattle.mojette.specs.Bins.{in_bin}
use Rattle.katz.proofs.Pixels.{column_below, row_below, cell_below}
use Rattle.peeling.specs.Counting.{number, least, tally, one_if}
use Rattle.peeling.proofs.Bridges.{least_alone}
use Rattle.peeling.proofs.Counts.{tally_same, number_same, number_one, number_alone, least_some, least_passes}
use Rattle.plan.specs.declared.places.Place.{Place}
use Rattle.plan.specs.Laid.{direction_of, turned, bin_number}
use Rattle.plan.proofs.Cells.{turned_back, turned_inside, lies_there, lies_only_there}
use Rattle.walk.specs.declared.line.Line.{Line}
use Rattle.walk.specs.declared.pixel.Pixel.{Pixel}
use Rattle.walk.specs.Finding.{pixel_in, OfTile}
use Rattle.walk.specs.Walking.{On, pixel_at, missing}
use Rattle.walk.proofs.Tallies.{tally_back, number_rows, in_rows}
use Rattle.walk.proofs.Walks.{Passes, Alone, NoneAlone}

-- the pixel at x columns to the right edge and y rows along, and back
module _ (P Q : ℕ) (b : Bool) where
  abbrev cell_of : ℕ → ℕ → ℕ
  cell_of x y = turned b Q y * P + (P - 1 - x)

  cell_inside : (x y : ℕ) → x < P → y < Q → cell_of x y < P * Q
  cell_inside x y l l' = cell_below P Q (P - 1 - x) (turned b Q y) (omega arith) (turned_inside b Q y l')

  column_is : (x y : ℕ) → x < P → cell_of x y % P ≡ P - 1 - x
  column_is x y l = mod-mul-add (turned b Q y) P (P - 1 - x) (omega arith)

  row_is : (x y : ℕ) → x < P → cell_of x y / P ≡ turned b Q y
  row_is x y l = div-mul-add (turned b Q y) P (P - 1 - x) (omega arith)

  across_back : (x y : ℕ) → x < P → P - 1 - cell_of x y % P ≡ x
  across_back x y l = let e = column_is x y l in omega arith

  along_back : (x y : ℕ) → x < P → y < Q → turned b Q (cell_of x y / P) ≡ y
  along_back x y l l' = ap (turned b Q) (row_is x y l) ∙ turned_back b Q y l'

  cell_back : (c : ℕ) → c < P * Q → cell_of (P - 1 - c % P) (turned b Q (c / P)) ≡ c
  cell_back c l =
      let h = column_below P Q c l in
      let e : P - 1 - (P - 1 - c % P) ≡ c % P = omega arith in
      ap₂ (λ (i j : ℕ). i * P + j) (turned_back b Q (c / P) (row_below P Q c l)) e ∙ div-add-mod' c P

module _ (P Q : ℕ) (x : Place) where
  -- a cell's bin
  abbrev bin_of : ℕ → ℕ
  bin_of c = bin_number P Q x (c % P) (c / P)

  pub in_bin_is : (b c : ℕ) → c < P * Q → in_bin P Q (direction_of x) c b ≡ eqb (bin_of c) b
  in_bin_is b c l = go (cases_eq (bin_of c) b) (cases_Bool (in_bin P Q (direction_of x) c b))
    where
      hk : c % P < P
      hk = column_below P Q c l

      hl : c / P < Q
      hl = row_below P Q c l

      same : c / P * P + c % P ≡ c
      same = div-add-mod' c P

      go : (bin_of c ≡ b) ⊎ (bin_of c ≡ b → ⊥) → (in_bin P Q (direction_of x) c b ≡ true) ⊎ (in_bin P Q (direction_of x) c b ≡ false) → in_bin P Q (direction_of x) c b ≡ eqb (bin_of c) b
      go (inl e) t =
          ap₂ (in_bin P Q (direction_of x)) (sym same) (sym e) ∙ lies_there P Q x (c % P) (c / P) hk hl ∙ sym (eq-eqb (bin_of c) b e)
      go (inr ne) (inl t) = absurd (ne (sym (lies_only_there P Q x (c % P) (c / P) hk hl b (ap (λ n. in_bin P Q (direction_of x) n b) same ∙ t))))
      go (inr ne) (inr t) = t ∙ sym (ne_eqb (bin_of c) b ne)

  -- Counting them -------------------------------------------------------------------------------------------------

  pub pixels_by_rows : (b : ℕ) → number (P * Q) (λ c. in_bin P Q (direction_of x) c b) ≡ in_rows P Q x.q x.slope b
  unfolding number
  pixels_by_rows b =
      number_same (P * Q) _ _ (in_bin_is b) ∙ number_rows P Q (λ c. eqb (bin_of c) b)
      ∙ tally_same Q _ _ (λ l h. tally_same P _ _ (λ k h'. ap (λ n. one_if (eqb n b)) (at k l h')))
      ∙ tally_same Q _ (λ l. along (turned x.leftward Q l)) (λ l h. sym (tally_back P (λ k. one_if (eqb (k * x.q + turned x.leftward Q l * x.slope) b))))
      ∙ turn x.leftward
    where
      -- the pixels of a row along
      along : ℕ → ℕ
      along y = number P (λ k. eqb (k * x.q + y * x.slope) b)

      at : (k l : ℕ) → k < P → bin_of (l * P + k) ≡ bin_number P Q x k l
      at k l h = ap₂ (bin_number P Q x) (mod-mul-add l P k h) (div-mul-add l P k h)

      turn : (leftward : Bool) → tally Q (λ l. along (turned leftward Q l)) ≡ tally Q along
      turn true = sym (tally_back Q along)
      turn false = refl

-- The one that is missing -----------------------------------------------------------------------------------------

module _ (l : Line) (marks : List ℕ) where
  abbrev P : ℕ
  P = l.size.columns

  abbrev Q : ℕ
  Q = l.size.rows

  abbrev b : Bool
  b = l.place.leftward

  abbrev cell : ℕ → ℕ → ℕ
  cell x y = (pixel_at l x y).cell

  -- the mark of a pixel says that it is missing
  abbrev pub open_at : ℕ → ℕ → Bool
  open_at x y = eqb (get_or marks (cell x y) 0) 0

  -- the cell is of the line, and its mark says that it is missing
  abbrev miss : ℕ → Bool
  miss c = in_bin P Q (direction_of l.place) c l.bin && eqb (get_or marks c 0) 0

  pub inside : (x y : ℕ) → On l x y → cell x y < P * Q
  inside x y p = cell_inside P Q b x y p.left p.low

  passes : (u v : ℕ) → Passes l open_at u v → miss (cell u v) ≡ true
  passes u v p = and_from _ _ (in_bin_is P Q l.place l.bin (cell u v) (inside u v p.on) ∙ eq-eqb _ l.bin (there ∙ p.on.on)) p.is
    where
      there : bin_of P Q l.place (cell u v) ≡ u * l.place.q + v * l.place.slope
      there = ap₂ (λ (i j : ℕ). i * l.place.q + j * l.place.slope) (across_back P Q b u v p.on.left) (along_back P Q b u v p.on.left p.on.low)

  -- a missing cell of the line, as a pixel
  record PixelOf (c : ℕ) : Type 0 where
    pub u : ℕ
    pub v : ℕ
    pub same : cell u v ≡ c
    pub here : Passes l open_at u v

  pixel_of : (c : ℕ) → c < P * Q → miss c ≡ true → PixelOf c
  pixel_of c k e =
      let h = column_below P Q c k in
      let back = cell_back P Q b c k in
      let parts = and_parts (in_bin P Q (direction_of l.place) c l.bin) (eqb (get_or marks c 0) 0) e in
      record {
        u = P - 1 - c % P;
        v = turned b Q (c / P);
        same = back;
        here = record {
          on = record {
            left = omega arith;
            low = turned_inside b Q (c / P) (row_below P Q c k);
            on = eqb-true _ l.bin (sym (in_bin_is P Q l.place l.bin c k) ∙ parts.0);
          };
          is = subst (λ n. eqb (get_or marks n 0) 0 ≡ true) (sym back) parts.1;
        };
      }

  one_missing : (u v : ℕ) → Passes l open_at u v → ((i j : ℕ) → Passes l open_at i j → ((i ≡ u) × (j ≡ v)))
      → (number (P * Q) miss ≡ 1) × (least (P * Q) miss ≡ cell u v)
  one_missing u v p only = (one, least_alone (P * Q) miss (cell u v) one (inside u v p.on) (passes u v p))
    where
      one : number (P * Q) miss ≡ 1
      one = number_one (P * Q) miss (cell u v) (inside u v p.on) (passes u v p) (λ c k e.
          let z = pixel_of c k e in
          let same = only z.u z.v z.here in
          sym z.same ∙ ap₂ cell same.0 same.1)

  not_one_missing : NoneAlone l open_at → number (P * Q) miss ≡ 1 → ⊥
  not_one_missing none one =
      let some = least_some (P * Q) miss (omega arith) in
      let z = pixel_of (least (P * Q) miss) some (least_passes (P * Q) miss some) in
      none (pixel_at l z.u z.v) (record {
        u = z.u;
        v = z.v;
        same = refl;
        here = z.here;
        only = λ i j p.
            let same : cell i j ≡ cell z.u z.v =
            number_alone (P * Q) miss (omega arith) (cell i j) (cell z.u z.v) (inside i j p.on) (inside z.u z.v z.here.on)
            (passes i j p) (passes z.u z.v z.here) in (
              sym (across_back P Q b i j p.on.left) ∙ ap (λ (c : ℕ). P - 1 - c % P) same ∙ across_back P Q b z.u z.v z.here.on.left,
              sym (along_back P Q b i j p.on.left p.on.low) ∙ ap (λ (c : ℕ). turned b Q (c / P)) same ∙ along_back P Q b z.u z.v z.here.on.left z.here.on.low,
            );
      })

  -- what the walk finds
  abbrev pub Found : Option Pixel → Type 0
  Found r = record { is : r ≡ missing l marks; pixel : IfSome r (OfTile P Q) }

  pub found : (r : Option Pixel) → MatchOption r (NoneAlone l open_at) (Alone l open_at) → Found r
  found None none = record { is = sym (cond-false _ _ _ (ne_eqb _ 1 (not_one_missing none))); pixel = tt }
  found (Some w) w-is =
      let p = w-is.here.on in
      let one = one_missing w-is.u w-is.v w-is.here w-is.only in
      let at : pixel_at l w-is.u w-is.v ≡ pixel_in P (cell w-is.u w-is.v) = λ i. record {
        column = sym (column_is P Q b w-is.u w-is.v p.left) i;
        row = sym (row_is P Q b w-is.u w-is.v p.left) i;
        cell = cell w-is.u w-is.v;
      } in
      record {
        is = ap Some (w-is.same ∙ at ∙ ap (pixel_in P) (sym one.1)) ∙ sym (cond-true _ _ _ (eq-eqb _ 1 one.0));
        pixel = subst (OfTile P Q) (sym w-is.same) (record {
          column = let h = p.left in omega arith;
          row = let h = turned_inside b Q w-is.v p.low in omega arith;
          cell = refl;
        });
      }
