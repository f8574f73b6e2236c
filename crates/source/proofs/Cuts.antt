-- Where each place of a rack lies in its run.
use Rattle.std.proofs.Common.{◌≡◌, ℕ, zero, suc, ◌+◌, ◌<◌, ◌≤◌, true, ◌⊎◌, List, [], ◌∷◌, length, get_or, take, drop, sym, refl, ap, ◌∙◌, subst, inl, inr, arith}
use Rattle.std.proofs.lemmas.List.{drop-drop, get_or-take, get_or-drop, get_or-map, get_or_read, length-map}
use Rattle.std.proofs.lemmas.Bool.{cases_lt, cond-true, cond-false, lt-ltb, le-ltb, eq-eqb, ne_eqb}
use Rattle.samples.specs.declared.kind.Kind.{Ghosts as Operations}
use Rattle.mojette.specs.declared.direction.Record.{Record}
use Rattle.mojette.specs.Bins.{bins, whole, start, all_bins}
use Rattle.mojette.specs.Faults.{served, refuses}
use Rattle.mojette.specs.Meaning.{Meaning, bins_of}
use Rattle.mojette.specs.Refusals.{Refusal, refusal}
use Rattle.plan.specs.declared.places.Place.{Place as Laid}
use Rattle.plan.specs.declared.plan.Plan.{Plan}
use Rattle.plan.specs.Shapes.{shape, places_of}
use Rattle.plan.specs.Laid.{record_of, records_of, Starts, Sizes, no_place as no_laid, place_at as laid_at}
use Rattle.source.specs.Questions.{no_record, no_place, place_at, bins_at, asked_place, asked_bin}
use Rattle.source.specs.Racks.{placed, cut, rack_meaning, record_at}
use Rattle.source.proofs.Asking.{Found, place_found, place_missed, no_place_there, lost_there, no_bin_there, bin_there}

module _ (P Q : ℕ) where
  abbrev B : Record → ℕ
  B e = bins P Q e.direction

  abbrev entry : List Record → ℕ → Record
  entry es i = get_or es i no_record

  pub place_within : (es : List Record) (i : ℕ) → i < length es → start P Q es i + B (entry es i) ≤ all_bins P Q es
  place_within [] i h = absurd (omega arith)
  place_within (e ∷ es) zero h = omega arith
  place_within (e ∷ es) (suc i) h = let more = place_within es i (omega arith) in omega arith

  module _ {S : Type 0} where
    pub length_cut : (es : List Record) (run : List S) → length (cut P Q es run) ≡ length es
    length_cut [] run = refl
    length_cut (e ∷ es) run = ap suc (length_cut es (drop (B e) run))

    -- the part of the run that place i has
    abbrev part : List Record → List S → ℕ → List S
    part es run i = take (B (entry es i)) (drop (start P Q es i) run)

    cut_at : (es : List Record) (run : List S) (i : ℕ) → i < length es → get_or (cut P Q es run) i no_place ≡ placed (entry es i) (part es run i)
    cut_at [] run i h = absurd (omega arith)
    cut_at (e ∷ es) run zero h = refl
    cut_at (e ∷ es) run (suc i) h =
        cut_at es (drop (B e) run) i (omega arith) ∙ ap (λ l. placed (entry es i) (take (B (entry es i)) l)) (drop-drop (start P Q es i) (B e) run)

    -- the record of a place answers for it
    pub same_record : (es : List Record) (run : List S) (i : ℕ) → record_at es i ≡ asked_place (rack_meaning P Q es run) i
    same_record es run i = go (cases_lt i (length es))
      where
        long : length (cut P Q es run) ≡ length es
        long = length_cut es run

        go : (i < length es) ⊎ (length es ≤ i) → record_at es i ≡ asked_place (rack_meaning P Q es run) i
        go (inl h) =
            cond-true _ _ _ (lt-ltb i (length es) h) ∙ ap (λ x. served x.entry) (sym (cut_at es run i h))
            ∙ sym (cond-true _ _ _ (lt-ltb i (length (cut P Q es run)) (subst (λ n. i < n) (sym long) h)))
        go (inr h) = cond-false _ _ _ (le-ltb i (length es) h) ∙ sym (cond-false _ _ _ (le-ltb i (length (cut P Q es run)) (subst (λ n. n ≤ i) (sym long) h)))

-- The places of a plan, its records, and a run of all its samples.
pub record RunOf {S : Type 0} (P Q : ℕ) (es : List Record) (run : List S) (xs : List Laid) : Type 0 where
  pub same : records_of xs ≡ es
  pub starts : Starts P Q xs
  pub sizes : Sizes P Q xs
  pub full : length run ≡ all_bins P Q (records_of xs)

pub run_of :
    {S : Type 0} (plan : Plan) (es : List Record) (run : List S) (xs : List Laid) → xs ≡ places_of plan → (shape plan).records ≡ es → length run ≡ bins_of (shape plan)
    → RunOf plan.size.columns plan.size.rows es run xs
run_of plan es run xs is same full =
    subst (RunOf plan.size.columns plan.size.rows es run) (sym is) (record { same = same; starts = plan.starts; sizes = plan.sizes; full = full })

-- place i, and its part of the run
module _ {S : Type 0} (P Q : ℕ) (es : List Record) (run : List S) (xs : List Laid) (h : RunOf P Q es run xs) (i : ℕ) (inside : i < length xs) where
  abbrev m : Meaning S
  m = rack_meaning P Q es run

  abbrev x : Laid
  x = laid_at xs i

  within : i < length es
  within = subst (λ n. i < n) (sym (length-map xs record_of) ∙ ap length h.same) inside

  record_is : record_of x ≡ get_or es i no_record
  record_is = sym (get_or-map record_of xs i no_laid no_record inside) ∙ ap (λ l. get_or l i no_record) h.same

  size_of : x.bins ≡ bins P Q (get_or es i no_record).direction
  size_of = h.sizes i inside ∙ ap (λ e. bins P Q e.direction) record_is

  start_of : x.start ≡ start P Q es i
  start_of = h.starts i inside ∙ ap (λ l. start P Q l i) h.same

  bins_there : x.bins ≡ bins_at m i
  bins_there = size_of ∙ ap (λ y. bins P Q y.entry.direction) (sym (cut_at P Q es run i within))

  in_run : (b : ℕ) → b < x.bins → x.start + b < length run
  in_run b l =
      let most = place_within P Q es i within in
      let all = h.full ∙ ap (all_bins P Q) h.same in
      let size = size_of in
      let from = start_of in
      omega arith

  sample_there : (z : S) (b : ℕ) → whole (place_at m i).entry ≡ true → b < x.bins → get_or run (x.start + b) z ≡ get_or (place_at m i).sums b z
  sample_there z b here l =
      let e = get_or es i no_record in
      let there = cut_at P Q es run i within in
      let whole-e = ap (λ y. whole y.entry) (sym there) ∙ here in
      ap (λ n. get_or run (n + b) z) start_of ∙ sym (get_or-drop (start P Q es i) run b z)
      ∙ sym (get_or-take (bins P Q e.direction) (drop (start P Q es i) run) b z (subst (λ n. b < n) size_of l))
      ∙ ap (λ l. get_or l b z) (sym (cond-true (whole e) (part P Q es run i) [] whole-e)) ∙ ap (λ y. get_or y.sums b z) (sym there)

-- What a rack answers about bin b of place i, by the answer about the place.
module _ {S : Type 0} (K : Operations S) (P Q : ℕ) (es : List Record) (run : List S) (i b : ℕ) where
  abbrev meant : Meaning S
  meant = rack_meaning P Q es run

  pub no_place_answer : (r : Refusal) → refuses r ≡ record_at es i → refuses r ≡ asked_bin K meant i b
  no_place_answer r got =
      let missed = place_missed meant i r (got ∙ same_record P Q es run i) in
      ap refuses missed.row ∙ sym (no_place_there K meant i b missed.beyond)

  module _ (e : Record) (got : served e ≡ record_at es i) where
    found : Found meant i e
    found = place_found meant i e (got ∙ same_record P Q es run i)

    here : e.cause ≡ 0 → whole (place_at meant i).entry ≡ true
    here none = ap whole (sym found.same) ∙ eq-eqb e.cause 0 none

    pub lost_answer : (e.cause ≡ 0 → ⊥) → refuses (refusal 17 e.cause 0 0) ≡ asked_bin K meant i b
    lost_answer some =
        ap (λ x. refuses (refusal 17 x.cause 0 0)) found.same
        ∙ sym (lost_there K meant i b found.inside (ap whole (sym found.same) ∙ ne_eqb e.cause 0 some))

    module _ (xs : List Laid) (h : RunOf P Q es run xs) where
      pub place_inside : i < length xs
      place_inside = subst (λ n. i < n) (length_cut P Q es run ∙ ap length (sym h.same) ∙ length-map xs record_of) found.inside

      pub no_bin_answer : e.cause ≡ 0 → (laid_at xs i).bins ≤ b → refuses (refusal 18 0 0 0) ≡ asked_bin K meant i b
      no_bin_answer none l = sym (no_bin_there K meant i b found.inside (here none) (subst (λ n. n ≤ b) (bins_there P Q es run xs h i place_inside) l))

      pub bin_inside : b < (laid_at xs i).bins → (laid_at xs i).start + b < length run
      bin_inside l = in_run P Q es run xs h i place_inside b l

      pub bin_answer : e.cause ≡ 0 → b < (laid_at xs i).bins → (x : S) → x ≡ get_or run ((laid_at xs i).start + b) x → served x ≡ asked_bin K meant i b
      bin_answer none l x read =
          ap served (get_or_read run ((laid_at xs i).start + b) x (bin_inside l) read K.zero ∙ sample_there P Q es run xs h i place_inside K.zero b (here none) l)
          ∙ sym (bin_there K meant i b found.inside (here none) (subst (λ n. b < n) (bins_there P Q es run xs h i place_inside) l))
