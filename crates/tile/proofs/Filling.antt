-- Loading a place of a source that fits.
use Rattle.std.proofs.Common.{◌≡◌, ℕ, ◌+◌, ◌<◌, ◌≤◌, true, eqb, List, length, get_or, sym, ap, ◌∙◌, subst, ap₂, arith}
use Rattle.std.proofs.lemmas.List.{length-map}
use Rattle.std.proofs.lemmas.Bool.{eqb-true, and_parts}
use Rattle.std.proofs.lemmas.Bool.Decides.{nat_tests}
use Rattle.samples.specs.declared.kind.Kind.{Ghosts as Operations}
use Rattle.mojette.specs.declared.direction.Record.{Record}
use Rattle.mojette.specs.Bins.{bins, start}
use Rattle.mojette.specs.Directions.{equal}
use Rattle.mojette.specs.Meaning.{Shape, Meaning, bins_of}
use Rattle.mojette.proofs.Equal.{equal_true}
use Rattle.plan.specs.declared.places.Place.{Place}
use Rattle.plan.specs.declared.plan.Plan.{Plan}
use Rattle.plan.specs.Laid.{record_of, records_of}
use Rattle.plan.specs.Laid.{place_at as nth}
use Rattle.plan.specs.Shapes.{shape, places_of}
use Rattle.source.specs.Questions.{place_at, bins_at}
use Rattle.law.specs.Steps.{no_record, same_record, fits, written, with_place, load, loading, done, served, short_sums, Tables}
use Rattle.walk.proofs.Laying.{record_at, bins_are, turn}
use Rattle.tile.specs.Outcomes.{tables}
use Rattle.tile.specs.Loads.{bin_value}

-- what holds of a source that fits
module _ {S : Type 0} (shape : Shape) (m : Meaning S) (n : ℕ) where
  abbrev mine : Record
  mine = get_or shape.records n no_record

  abbrev other : Record
  other = (place_at m n).entry

  record Fitting : Type 0 where
    pub columns : shape.P ≡ m.P
    pub rows : shape.Q ≡ m.Q
    pub number : length shape.records ≡ length m.places
    pub direction : mine.direction ≡ other.direction

  fitting : fits shape m n ≡ true → Fitting
  unfolding fits
  fitting t =
      let a = and_parts (eqb shape.P m.P) _ t in
      let b = and_parts (eqb shape.Q m.Q) _ a.1 in
      let c = and_parts (eqb (length shape.records) (length m.places)) (same_record mine other) b.1 in
      let d = and_parts (equal mine.direction.p other.direction.p) _ c.1 in
      let e = and_parts (equal mine.direction.q other.direction.q) _ d.1 in
      record {
        columns = eqb-true _ _ a.0;
        rows = eqb-true _ _ b.0;
        number = eqb-true _ _ c.0;
        direction = ap₂ (λ p q. record { p = p; q = q }) (equal_true _ _ d.0) (equal_true _ _ e.0);
      }

-- what the code that writes place i of a source that fits needs of it
pub record FitsAt {S : Type 0} (plan : Plan) (m : Meaning S) (i : ℕ) (x : Place) : Type 0 where
  pub known : i < length m.places
  pub starts : x.start ≡ start plan.size.columns plan.size.rows (records_of (places_of plan)) i
  pub inside : x.start + x.bins ≤ plan.total
  pub size : x.bins ≡ bins plan.size.columns plan.size.rows (place_at m i).entry.direction
  pub size_there : x.bins ≡ bins_at m i

pub fits_at : {S : Type 0} (plan : Plan) (m : Meaning S) (i : ℕ) (ys : List Place) → ys ≡ places_of plan → i < length ys → true ≡ fits (shape plan) m i →
    (x : Place) → x ≡ nth ys i → FitsAt plan m i x
fits_at plan m i ys e l is x same =
    let t = turn plan ys i e l in
    let f = fitting (shape plan) m i (sym is) in
    let here : (nth ys i).bins ≡ bins plan.size.columns plan.size.rows (place_at m i).entry.direction =
    ap (λ y. y.bins) t.same ∙ bins_are plan i t.known
    ∙ ap (bins plan.size.columns plan.size.rows) (ap (λ y. y.direction) (sym (record_at (places_of plan) i t.known)) ∙ f.direction) in
    subst (FitsAt plan m i) (sym same) (record {
      known = omega (arith, t.known, f.number, length-map (places_of plan) record_of);
      starts = t.starts;
      inside = t.inside;
      size = here;
      size_there = here ∙ ap₂ (λ P Q. bins P Q (place_at m i).entry.direction) f.columns f.rows;
    })

pub load_served : {S : Type 0} (K : Operations S) (plan : Plan) (m : Meaning S) (n : ℕ) (t : Tables S) (from size : ℕ) (sums : List S) →
    bins_of (shape plan) ≤ length t.sums → n < length (shape plan).records → true ≡ fits (shape plan) m n →
    from ≡ start plan.size.columns plan.size.rows (records_of (places_of plan)) n → size ≡ bins plan.size.columns plan.size.rows (place_at m n).entry.direction →
    sums ≡ written from size (bin_value K m n) t.sums →
    served (loading (n + 1)) (tables t.picture t.marks sums t.counts t.queue) done ≡ load K (shape plan) m n t
unfolding load short_sums with_place
load_served K plan m n t from size sums room l e f g is = grind (arith, nat_tests)
