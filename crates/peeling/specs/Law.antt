-- The law of the peeling decoder: what holds after every row of calls, in any order.
use Rattle.std.specs.Prelude.{◌≡◌, ℕ, ◌<◌, ◌≤◌, true, false, ◌⊎◌, ◌↔◌, List, [], ◌∷◌, length, take as first, ◌≢◌, slice_index_or}
use Rattle.samples.specs.declared.kind.Kind.{Ghosts as Operations}
use Rattle.peeling.specs.Counting.{number, tally}
use Rattle.peeling.specs.Incidence.{Incidence, OneMissing, Agrees, loaded}
use Rattle.peeling.specs.Steps.{World, most, seal, Refused, bad_cell, grants, take_answers, take, settle, give_back, finish_answers, served}
use Rattle.peeling.specs.History.{History, took, settled, gave_back, refused, missing, missing_in, waits, out, settles}

module _ {A : Type 0} (K : Operations A) (I : Incidence) (source : ℕ → A) where
  -- The tables are long enough, and the sums are the source's, with zeros in lost places.
  pub record Ready (w : World A) : Type 0 where
    pub picture_long : I.pixels ≤ length w.picture
    pub marks_long : I.pixels ≤ length w.marks
    pub sums_long : I.bins ≤ length w.sums
    pub counts_long : I.bins ≤ length w.counts
    pub queue_long : I.bins ≤ length w.queue
    pub sums_loaded : (b : ℕ) → b < I.bins → slice_index_or w.sums b K.zero ≡ loaded K I source b

  -- The worlds that calls can reach from an accepted seal, in any order.
  -- A settle and a give back take a grant that is out; a refused call changes nothing.
  pub data Run : History → World A → Type 0 where
    sealed : {w : World A} → Ready w → Run [] (seal K I w)
    takes : {h : History} {w : World A} {b : ℕ} → Run h w → take_answers I.bins w.state w.queue ≡ grants b → Run (took b ∷ h) (take K I w)
    settles_grant : {h : History} {w : World A} {b : ℕ} → Run h w → 0 < out h b → Run (settled b ∷ h) (settle K I b w)
    gives_back : {h : History} {w : World A} {b : ℕ} → Run h w → 0 < out h b → Run (gave_back b ∷ h) (give_back K I b w)
    refuses : {h : History} {w : World A} → Run h w → Run (refused ∷ h) w

  -- What holds after the calls h, in the world w.
  pub record Facts (h : History) (w : World A) : Type 0 where
    -- While some pixel is missing, some bin with exactly one missing pixel waits or is out.
    pub goes_on : (c : ℕ) → c < I.pixels → missing I h c ≡ true →
        (b : ℕ) × (b < I.bins) × (missing_in I h b ≡ 1) × ((waits I h b ≡ true) ⊎ (0 < out h b))
    -- A take is refused exactly when no bin waits, and never for what a queue cell holds; it grants a bin that waits.
    pub take_refused : Refused (take_answers I.bins w.state w.queue) ↔ ((b : ℕ) → b < I.bins → waits I h b ≡ false)
    pub cell_good : (i : ℕ) → take_answers I.bins w.state w.queue ≢ bad_cell i
    pub take_granted : (b : ℕ) → take_answers I.bins w.state w.queue ≡ grants b → (b < I.bins) × (waits I h b ≡ true)
    -- `left` is the number of missing pixels.
    pub left_is : w.state.left ≡ number I.pixels (missing I h)
    -- `out` is the number of grants out, `settled` that of settles served, which is at most the number of bins.
    pub out_is : w.state.out ≡ tally I.bins (out h)
    pub settled_is : w.state.settled ≡ settles h
    pub settles_few : settles h ≤ I.bins
    -- A pixel that is found has the value that it has in every tile that agrees with the source.
    pub found_right : (c : ℕ) → c < I.pixels → missing I h c ≡ false →
        (t : List A) → Agrees K I source t → slice_index_or w.picture c K.zero ≡ slice_index_or t c K.zero
    -- With no pixel missing and no grant out, finish is served exactly when some tile agrees with the source;
    -- then the picture agrees, and no other tile does.
    pub finish_served : w.state.left ≡ 0 → w.state.out ≡ 0 →
        (finish_answers K I.bins w.state w.sums ≡ served) ↔ ((t : List A) × Agrees K I source t)
    pub picture_agrees : finish_answers K I.bins w.state w.sums ≡ served → Agrees K I source (first I.pixels w.picture)
    pub picture_only : finish_answers K I.bins w.state w.sums ≡ served →
        (t : List A) → Agrees K I source t → t ≡ first I.pixels w.picture

-- The law, for a kind of sample: for every tile and bins of which one pixel is always alone, every source, every row of calls.
abbrev pub PeelingLaw : {A : Type 0} → Operations A → Type 0
PeelingLaw {A} K = (I : Incidence) (source : ℕ → A) → OneMissing I → I.bins ≤ most →
    (h : History) (w : World A) → Run K I source h w → Facts K I source h w
