-- Loading writes the bins of each place at their positions.
use Rattle.std.proofs.Common.{◌≡◌, ℕ, zero, suc, ◌+◌, ◌-◌, ◌<◌, ◌≤◌, true, false, cond, leb, List, [], ◌∷◌, length, get_or, sym, refl, ap, ◌∙◌, subst, ap₂, ⊎_elim, arith}
use Rattle.std.proofs.lemmas.List.{length-map, get_or-map, get_or-set_other}
use Rattle.std.proofs.lemmas.Bool.{cases_lt, cond-false, le-ltb, le-leb, lt-leb, eq-eqb, and_from}
use Rattle.samples.specs.declared.kind.Kind.{Ghosts as Operations}
use Rattle.mojette.specs.declared.direction.Record.{Record}
use Rattle.mojette.specs.Bins.{bins, whole, start, all_bins}
use Rattle.mojette.specs.Meaning.{Place, Meaning, shape_of, bins_of}
use Rattle.mojette.specs.Refusals.{refusal}
use Rattle.mojette.proofs.Equal.{equal_same}
use Rattle.peeling.specs.Incidence.{loaded}
use Rattle.law.specs.Positions.{whole_at, sum_at, incidence}
use Rattle.law.specs.Steps.{loading, Tables, done, served, refuse, short_sums, no_record, no_place, same_record, fits, written, with_place, load}
use Rattle.law.specs.Life.{LongEnough}
use Rattle.law.proofs.Agreement.{records, source}
use Rattle.law.proofs.Writing.{length-written, get_or-written}
use Rattle.law.proofs.Places.{front, shift, B, sum_here, sum_there, at, next_start, last_start, within_all, whole_of}

-- Cells written from a start --------------------------------------------------------------------------------------

get_or-before : {X : Type 0} (from n : ℕ) (f : ℕ → X) (xs : List X) (d : X) (x : ℕ) → x < from → get_or (written from n f xs) x d ≡ get_or xs x d
unfolding written
get_or-before from zero f xs d x l = refl
get_or-before from (suc n) f xs d x l =
    get_or-set_other (written from n f xs) (from + n) x (f n) d (λ e. omega arith) ∙ get_or-before from n f xs d x l

-- What stands at a position --------------------------------------------------------------------------------------

module _ {S : Type 0} (P Q : ℕ) where
  -- the record of place n
  entry_of : (places : List (Place S)) (n : ℕ) → n < length places → at P Q (records places) n ≡ (get_or places n no_place).entry
  entry_of places n l = get_or-map (λ x. x.entry) places n no_place no_record l

  sum_of : (z : S) (places : List (Place S)) (n b : ℕ) → n < length places → b < B P Q (get_or places n no_place).entry →
      sum_at P Q z places (start P Q (records places) n + b) ≡ get_or (get_or places n no_place).sums b z
  sum_of z [] n b l k = absurd (omega arith)
  sum_of z (a ∷ rest) zero b l k = ap (sum_at P Q z (a ∷ rest)) (front b) ∙ sum_here P Q z a rest b k
  sum_of z (a ∷ rest) (suc n) b l k =
      ap (sum_at P Q z (a ∷ rest)) (shift (B P Q a.entry) (start P Q (records rest) n) b)
      ∙ sum_there P Q z a rest (start P Q (records rest) n + b) ∙ sum_of z rest n b (omega arith) k

  -- what should stand at position x, and at bin b of a place
  abbrev value_at : S → List (Place S) → ℕ → S
  value_at z places x = cond (whole_at P Q (records places) x) (sum_at P Q z places x) z

  abbrev value_in : S → Place S → ℕ → S
  value_in z a b = cond (whole a.entry) (get_or a.sums b z) z

  module _ (places : List (Place S)) (n : ℕ) (l : n < length places) where
    listed : n < length (records places)
    listed = subst (λ k. n < k) (sym (length-map places (λ x. x.entry))) l

    start_more : start P Q (records places) (suc n) ≡ start P Q (records places) n + B P Q (get_or places n no_place).entry
    start_more = next_start P Q (records places) n listed ∙ ap (λ e. start P Q (records places) n + B P Q e) (entry_of places n l)

    within : (b : ℕ) → b < B P Q (get_or places n no_place).entry → b < B P Q (at P Q (records places) n)
    within b k = subst (λ e. b < B P Q e) (sym (entry_of places n l)) k

    value_of_place : (z : S) (b : ℕ) → b < B P Q (get_or places n no_place).entry →
        value_at z places (start P Q (records places) n + b) ≡ value_in z (get_or places n no_place) b
    value_of_place z b k = ap₂ (λ t v. cond t v z) (whole_of P Q (records places) n b listed (within b k) ∙ ap whole (entry_of places n l)) (sum_of z places n b l k)

    start_within : start P Q (records places) n + B P Q (get_or places n no_place).entry ≤ all_bins P Q (records places)
    start_within = let e = entry_of places n l in let last = within_all P Q (records places) n (B P Q (get_or places n no_place).entry - 1) listed (within _ (omega arith)) in omega arith

-- Load ------------------------------------------------------------------------------------------------------------

module _ {S : Type 0} (K : Operations S) (m : Meaning S) where
  -- the first position of place n
  abbrev pub first_of : ℕ → ℕ
  first_of n = start m.P m.Q (shape_of m).records n

  -- what stands at position x once its place is loaded
  abbrev pub value : ℕ → S
  value x = loaded K (incidence (shape_of m)) (source K m) x

  -- the first n places are loaded
  abbrev pub Loaded : ℕ → List S → Type 0
  Loaded n sums = (x : ℕ) → x < first_of n → get_or sums x K.zero ≡ value x

  pub records_number : length (shape_of m).records ≡ length m.places
  records_number = length-map m.places (λ x. x.entry)

  pub all_loaded : (sums : List S) → Loaded (length m.places) sums → (x : ℕ) → x < bins_of (shape_of m) → get_or sums x K.zero ≡ value x
  all_loaded sums is x l = is x (subst (λ n. x < n) (sym (ap first_of (sym records_number) ∙ last_start m.P m.Q (shape_of m).records)) l)

  module _ (n : ℕ) (next : n < length m.places) (sums : List S) (long : bins_of (shape_of m) ≤ length sums) where
    -- the next place
    abbrev place : Place S
    place = get_or m.places n no_place

    pub length-with_place : length (with_place K (shape_of m) place n sums) ≡ length sums
    unfolding with_place
    length-with_place = length-written _ _ _ sums

    pub one_more : Loaded n sums → Loaded (n + 1) (with_place K (shape_of m) place n sums)
    unfolding with_place
    one_more is x l = ⊎_elim
        (λ (k : x < first_of n). get_or-before _ _ _ sums K.zero x k ∙ is x k)
        (λ (k : first_of n ≤ x). at (x - first_of n) (inside k) x (back k))
        (cases_lt x (first_of n))
      where
        size : ℕ
        size = bins m.P m.Q place.entry.direction

        more : first_of (n + 1) ≡ first_of n + size
        more = ap first_of (plus_one n) ∙ start_more m.P m.Q m.places n next
          where
            plus_one : (n : ℕ) → n + 1 ≡ suc n
            plus_one n = omega arith

        inside : first_of n ≤ x → x - first_of n < size
        inside k = let e = more in omega arith

        back : first_of n ≤ x → first_of n + (x - first_of n) ≡ x
        back k = omega arith

        at : (b : ℕ) → b < size → (y : ℕ) → first_of n + b ≡ y →
            get_or (written (first_of n) size (value_in m.P m.Q K.zero place) sums) y K.zero ≡ value y
        at b k y e =
            ap (λ z. get_or (written (first_of n) size (value_in m.P m.Q K.zero place) sums) z K.zero) (sym e)
            ∙ get_or-written (first_of n) size _ sums K.zero b (let w = start_within m.P m.Q m.places n next in omega arith) k
            ∙ sym (value_of_place m.P m.Q m.places n next K.zero b k)
            ∙ ap value e

  fits_itself : (n : ℕ) → n < length m.places → fits (shape_of m) m n ≡ true
  unfolding fits
  fits_itself n l =
      and_from _ _ (eq-eqb m.P m.P refl)
      (and_from _ _ (eq-eqb m.Q m.Q refl)
      (and_from _ _ (eq-eqb _ _ records_number)
      (subst (λ e. same_record e (get_or m.places n no_place).entry ≡ true) (sym (entry_of m.P m.Q m.places n l))
      (same (get_or m.places n no_place).entry))))
    where
      same : (e : Record) → same_record e e ≡ true
      same e = and_from _ _ (equal_same e.direction.p) (and_from _ _ (equal_same e.direction.q) (eq-eqb e.cause e.cause refl))

  -- the tables with the next place loaded
  abbrev pub with_next : ℕ → Tables S → Tables S
  with_next n t = record {
    picture = t.picture;
    marks = t.marks;
    sums = with_place K (shape_of m) (get_or m.places n no_place) n t.sums;
    counts = t.counts;
    queue = t.queue;
  }

  module _ (n : ℕ) (t : Tables S) (long : LongEnough (shape_of m) t) where
    pub sums_fit : short_sums (shape_of m) t ≡ 0
    unfolding short_sums
    sums_fit = cond-false _ 3 0 (le-ltb _ _ long.sums)

    pub load_all : length m.places ≤ n → load K (shape_of m) m n t ≡ refuse (loading n) t (refusal 6 0 0 0)
    unfolding load
    load_all l =
        let e : leb (length (shape_of m).records) n ≡ true = le-leb _ _ (subst (λ k. k ≤ n) (sym records_number) l) in
        rw (sums_fit, e)

    pub load_next : n < length m.places → load K (shape_of m) m n t ≡ served (loading (n + 1)) (with_next n t) done
    unfolding load
    load_next l =
        let e : leb (length (shape_of m).records) n ≡ false = lt-leb _ _ (subst (λ k. n < k) (sym records_number) l) in
        rw (sums_fit, e, fits_itself n l)
