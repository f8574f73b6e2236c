-- Where a pixel lies among the positions of a place.
use Rattle.std.proofs.Common.{◌≡◌, ℕ, ◌+◌, ◌-◌, ◌%◌, ◌^◌, ◌<◌, true, false, ◌⊎◌, length, sym, ap, ◌∙◌, subst, inl, inr, mod-eq_of_lt, arith}
use Rattle.std.proofs.lemmas.Bool.{and_right, and_from, eq-eqb, cases_Bool}
use Rattle.mojette.specs.Bins.{in_bin, whole}
use Rattle.law.specs.Positions.{incidence}
use Rattle.plan.specs.declared.places.Place.{Place}
use Rattle.plan.specs.declared.plan.Plan.{Plan}
use Rattle.plan.specs.Laid.{direction_of, record_of, bin_number}
use Rattle.plan.specs.Laid.{place_at as nth}
use Rattle.plan.specs.Shapes.{shape, places_of}
use Rattle.plan.proofs.Cells.{bin_inside, lies_there, lies_only_there}
use Rattle.walk.specs.declared.pixel.Pixel.{Pixel}
use Rattle.walk.specs.Finding.{OfTile}
use Rattle.walk.specs.Lying.{starts, Lies, LiesWherever}
use Rattle.walk.proofs.Laying.{bins_are, start_is, next_is, ends_inside, lies_is}

module _ (plan : Plan) (i : ℕ) (l : i < length (places_of plan)) (pixel : Pixel) (of : OfTile plan.size.columns plan.size.rows pixel) where
  abbrev x : Place
  x = nth (places_of plan) i

  abbrev P : ℕ
  P = plan.size.columns

  abbrev Q : ℕ
  Q = plan.size.rows

  abbrev b : ℕ
  b = bin_number P Q x pixel.column pixel.row

  inside : b < x.bins
  inside = omega (arith, bins_are plan i l, bin_inside P Q x pixel.column pixel.row of.column of.row)

  its_bin : in_bin P Q (direction_of x) pixel.cell b ≡ true
  its_bin = ap (λ c. in_bin P Q (direction_of x) c b) of.cell ∙ lies_there P Q x pixel.column pixel.row of.column of.row

  no_other : (a : ℕ) → (a ≡ b → ⊥) → in_bin P Q (direction_of x) pixel.cell a ≡ false
  no_other a ne = go (cases_Bool (in_bin P Q (direction_of x) pixel.cell a))
    where
      go : (in_bin P Q (direction_of x) pixel.cell a ≡ true) ⊎ (in_bin P Q (direction_of x) pixel.cell a ≡ false) → in_bin P Q (direction_of x) pixel.cell a ≡ false
      go (inl t) =
          absurd (ne (lies_only_there P Q x pixel.column pixel.row of.column of.row a
          (ap (λ c. in_bin P Q (direction_of x) c a) (sym of.cell) ∙ t)))
      go (inr f) = f

  lies : Lies plan i pixel.cell (x.start + b)
  lies = record {
    from = omega (arith, start_is plan i l);
    below = omega (arith, next_is plan i l, inside);
    there = λ e. lies_is plan i l b inside pixel.cell ∙ and_from _ _ (eq-eqb _ 0 e) its_bin;
    only = λ y h h' ne.
        let e : y ≡ x.start + (y - x.start) = omega (arith, start_is plan i l) in
        ap ((incidence (shape plan)).lies pixel.cell) e
        ∙ lies_is plan i l (y - x.start) (omega (arith, next_is plan i l, start_is plan i l)) pixel.cell
        ∙ and_right (whole (record_of x)) _ (no_other (y - x.start) (λ same. ne (omega arith)));
  }

  pub lies_modulo : Lies plan i pixel.cell (starts plan i + b % 2 ^ 64)
  lies_modulo =
      let few : b < 2 ^ 64 = omega (arith, inside, ends_inside plan i l, plan.few_bins) in
      subst (Lies plan i pixel.cell) (λ j. start_is plan i l j + sym (mod-eq_of_lt few) j) lies

pub lies_wherever : (P Q : ℕ) (place : Place) (pixel : Pixel) (b : ℕ) → b ≡ bin_number P Q place pixel.column pixel.row % 2 ^ 64 → LiesWherever P Q place pixel b
lies_wherever P Q place pixel b is plan columns rows i l same of =
    let own : OfTile plan.size.columns plan.size.rows pixel = subst (λ n. OfTile n plan.size.rows pixel) (sym columns) (subst (λ n. OfTile P n pixel) (sym rows) of) in
    subst (Lies plan i pixel.cell) (ap (λ n. starts plan i + n) ((λ j. bin_number (columns j) (rows j) (same j) pixel.column pixel.row % 2 ^ 64) ∙ sym is)) (lies_modulo plan i l pixel own)
