-- No step of one worker's run writes behind the cells of the tile.
use Rattle.std.proofs.Common.{◌≡◌, ℕ, zero, suc, ◌+◌, ◌*◌, ◌%◌, ◌<◌, ◌≤◌, Bool, true, false, cond, eqb, leb, ltb, not, List, [], ◌∷◌, map, length, drop, get_or, set, Some, None, Option, sym, refl, ap, ◌∙◌, subst, mod-lt, arith}
use Rattle.std.proofs.lemmas.List.{drop-set-lt, get_or-map}
use Rattle.std.proofs.lemmas.Bool.{eqb-true, ltb-true, leb-false}
use Rattle.samples.specs.declared.kind.Kind.{Ghosts as Operations}
use Rattle.samples.specs.declared.words.SumWord.{SumWord}
use Rattle.samples.specs.contracts.impls.SumWordKind.TheImpl.{ghosts as sum_operations}
use Rattle.mojette.specs.declared.direction.Record.{Record}
use Rattle.mojette.specs.Bins.{bins, start, all_bins}
use Rattle.mojette.specs.Meaning.{Shape, Meaning, shape_of, verdict, pixels_of, bins_of, no_record, no_place}
use Rattle.mojette.specs.Refusals.{Refusal, refusal}
use Rattle.peeling.specs.declared.state.State.{State}
use Rattle.peeling.specs.Counting.{number, least}
use Rattle.peeling.specs.Incidence.{Incidence}
use Rattle.peeling.specs.Steps.{World, Taken, none_waits, bad_cell, grants, take_answers, filled, queue_with, append, queue_singles, lowered, take_off, placed, open_in, zeroed, take_off_all, find, peeled}
use Rattle.peeling.specs.Steps.{seal as peel_seal}
use Rattle.peeling.proofs.Counts.{least_some}
use Rattle.law.proofs.Loading.{records_number}
use Rattle.law.specs.Positions.{incidence}
use Rattle.law.specs.Steps.{Stage, loading, peeling, Tables, Answer, done, granted, settled, refused, Outcome, served, refuse, world_of, tables_of, blank, short, short_sums, short_queue, checked, fits, written, criterion, with_place, load, ghosted, seal, take_outcome, take, settle, finish}
use Rattle.law.specs.Turns.{state_of, moved, spend, turn, turns, loaded}
use Rattle.source.specs.Racks.{cut, rack_meaning}
use Rattle.source.specs.Questions as questions
use Rattle.source.proofs.Cuts.{place_within}
use Rattle.mojette.specs.Faults as outcomes
use Rattle.runs.specs.Worker.{ends, finishing, peels_from, sealing, with_tables, judged, one_worker}
use Rattle.exported.specs.Reading.{Loaded, laid}
use Rattle.exported.specs.Reading.{loading as file_loading}
use Rattle.exported.specs.Rebuilding.{works, rebuilding, SameBeyond}
use Rattle.exported.specs.Told.{told}

-- Lists -----------------------------------------------------------------------------------------------------------

drop-filled : {X : Type 0} (m n : ℕ) (f : ℕ → X) (xs : List X) → n ≤ m → drop m (filled n f xs) ≡ drop m xs
unfolding filled
drop-filled m zero f xs l = refl
drop-filled m (suc n) f xs l = drop-set-lt m (filled n f xs) n (f n) (omega arith) ∙ drop-filled m n f xs (omega arith)

drop-written : {X : Type 0} (m from n : ℕ) (f : ℕ → X) (xs : List X) → from + n ≤ m → drop m (written from n f xs) ≡ drop m xs
unfolding written
drop-written m from zero f xs l = refl
drop-written m from (suc n) f xs l = drop-set-lt m (written from n f xs) (from + n) (f n) (omega arith) ∙ drop-written m from n f xs (omega arith)

drop-queue : (T : ℕ) (s : State) (b : ℕ) (queue : List ℕ) → drop T (queue_with T s b queue) ≡ drop T queue
unfolding queue_with
drop-queue T s b queue = go (ltb s.waiting T) refl
  where
    go : (t : Bool) → ltb s.waiting T ≡ t → drop T (cond t (set queue ((s.head + s.waiting) % T) b) queue) ≡ drop T queue
    go true e = let some = ltb-true s.waiting T e in drop-set-lt T queue ((s.head + s.waiting) % T) b (mod-lt (s.head + s.waiting) (omega arith))
    go false e = refl

module _ {A : Type 0} {p t : ℕ} where
  same : {x : Tables A} → SameBeyond p t x x
  same = record { picture = refl; marks = refl; sums = refl; counts = refl; queue = refl }

  and_then : {x y z : Tables A} → SameBeyond p t x y → SameBeyond p t y z → SameBeyond p t x z
  and_then g h = record {
    picture = h.picture ∙ g.picture;
    marks = h.marks ∙ g.marks;
    sums = h.sums ∙ g.sums;
    counts = h.counts ∙ g.counts;
    queue = h.queue ∙ g.queue;
  }

-- The steps of the peeling ------------------------------------------------------------------------------------------

module _ {A : Type 0} (K : Operations A) (I : Incidence) where
  abbrev Keeps : World A → World A → Type 0
  Keeps w v = SameBeyond I.pixels I.bins (tables_of w) (tables_of v)

  append_keeps : (b : ℕ) (w : World A) → Keeps w (append I.bins b w)
  unfolding append
  append_keeps b w = record { picture = refl; marks = refl; sums = refl; counts = refl; queue = drop-queue I.bins w.state b w.queue }

  singles_keep : (k : ℕ) (w : World A) → Keeps w (queue_singles I.bins k w)
  unfolding queue_singles
  singles_keep zero w = same
  singles_keep (suc k) w = go (eqb (get_or (queue_singles I.bins k w).counts k 0) 1) (singles_keep k w)
    where
      go : (t : Bool) → Keeps w (queue_singles I.bins k w) → Keeps w (cond t (append I.bins k (queue_singles I.bins k w)) (queue_singles I.bins k w))
      go true so_far = and_then so_far (append_keeps k (queue_singles I.bins k w))
      go false so_far = so_far

  zeroed_keeps : (w : World A) → Keeps w (zeroed K I w)
  unfolding zeroed
  zeroed_keeps w = record {
    picture = drop-filled I.pixels I.pixels _ w.picture (omega arith);
    marks = drop-filled I.pixels I.pixels _ w.marks (omega arith);
    sums = refl;
    counts = drop-filled I.bins I.bins _ w.counts (omega arith);
    queue = refl;
  }

  seal_keeps : (w : World A) → Keeps w (peel_seal K I w)
  unfolding peel_seal
  seal_keeps w = and_then (zeroed_keeps w) (singles_keep I.bins (zeroed K I w))

  lowered_keeps : (v : A) (b : ℕ) (w : World A) → b < I.bins → Keeps w (lowered K v b w)
  unfolding lowered
  lowered_keeps v b w l = record {
    picture = refl;
    marks = refl;
    sums = drop-set-lt I.bins w.sums b _ l;
    counts = drop-set-lt I.bins w.counts b _ l;
    queue = refl;
  }

  take_off_keeps : (v : A) (b : ℕ) (w : World A) → b < I.bins → Keeps w (take_off K I.bins v b w)
  unfolding take_off
  take_off_keeps v b w l = go _
    where
      go : (t : Bool) → Keeps w (cond t (append I.bins b (lowered K v b w)) (lowered K v b w))
      go true = and_then (lowered_keeps v b w l) (append_keeps b (lowered K v b w))
      go false = lowered_keeps v b w l

  take_off_all_keeps : (c : ℕ) (v : A) (k : ℕ) (w : World A) → k ≤ I.bins → Keeps w (take_off_all K I c v k w)
  unfolding take_off_all
  take_off_all_keeps c v zero w l = same
  take_off_all_keeps c v (suc k) w l = go (I.lies c k) (take_off_all_keeps c v k w (omega arith))
    where
      go : (t : Bool) → Keeps w (take_off_all K I c v k w) → Keeps w (cond t (take_off K I.bins v k (take_off_all K I c v k w)) (take_off_all K I c v k w))
      go true so_far = and_then so_far (take_off_keeps v k (take_off_all K I c v k w) (omega arith))
      go false so_far = so_far

  placed_keeps : (c : ℕ) (v : A) (w : World A) → c < I.pixels → Keeps w (placed c v w)
  unfolding placed
  placed_keeps c v w l = record { picture = drop-set-lt I.pixels w.picture c v l; marks = drop-set-lt I.pixels w.marks c 1 l; sums = refl; counts = refl; queue = refl }

  find_keeps : (c : ℕ) (v : A) (w : World A) → c < I.pixels → Keeps w (find K I c v w)
  unfolding find
  find_keeps c v w l = and_then (placed_keeps c v w l) (take_off_all_keeps c v I.bins (placed c v w) (omega arith))

  peeled_keeps : (b : ℕ) (w : World A) → Keeps w (peeled K I b w)
  unfolding peeled
  peeled_keeps b w = go (eqb (number I.pixels (open_in I w b)) 1) refl
    where
      go : (t : Bool) → eqb (number I.pixels (open_in I w b)) 1 ≡ t → Keeps w (cond t (find K I (least I.pixels (open_in I w b)) (get_or w.sums b K.zero) w) w)
      go true e = let one = eqb-true (number I.pixels (open_in I w b)) 1 e in
          find_keeps (least I.pixels (open_in I w b)) (get_or w.sums b K.zero) w (least_some I.pixels (open_in I w b) (omega arith))
      go false e = same

-- The steps of a tile -----------------------------------------------------------------------------------------------

module _ {S : Type 0} (K : Operations S) (shape : Shape) where
  abbrev Leaves : Tables S → Tables S → Type 0
  Leaves t t' = SameBeyond (pixels_of shape) (bins_of shape) t t'

  checked_leaves : (k : ℕ) (stage : Stage) (t : Tables S) (o : Outcome S) → Leaves t o.tables → Leaves t (checked k stage t o).tables
  checked_leaves zero stage t o h = h
  checked_leaves (suc k) stage t o h = same

  either_leaves : (c : Bool) (t : Tables S) (o o' : Outcome S) → Leaves t o.tables → Leaves t o'.tables → Leaves t (cond c o o').tables
  either_leaves true t o o' h h' = h
  either_leaves false t o o' h h' = h'

  seal_leaves : (n : ℕ) (t : Tables S) → Leaves t (seal K shape n t).tables
  unfolding seal ghosted
  seal_leaves n t =
      checked_leaves (short shape t) (loading n) t _
      (either_leaves (ltb n (length shape.records)) t _ _ same
      (either_leaves (not (criterion shape)) t _ _
      (record { picture = drop-filled (pixels_of shape) (pixels_of shape) _ t.picture (omega arith); marks = refl; sums = refl; counts = refl; queue = refl })
      (seal_keeps K (incidence shape) (world_of blank t))))

  take_leaves : (s : State) (t : Tables S) → Leaves t (take K shape s t).tables
  unfolding take
  take_leaves s t = checked_leaves (short_queue shape t) (peeling s) t _ (go (take_answers (bins_of shape) s t.queue))
    where
      go : (a : Taken) → Leaves t (take_outcome K shape s t a).tables
      go none_waits = same
      go (bad_cell i) = same
      go (grants b) = same

  settle_leaves : (b : ℕ) (s : State) (t : Tables S) → Leaves t (settle K shape b s t).tables
  unfolding settle
  settle_leaves b s t =
      checked_leaves (short shape t) (peeling s) t _
      (either_leaves (leb (bins_of shape) b) t _ _ same (peeled_keeps K (incidence shape) b (world_of s t)))

  turn_leaves : (w : World S) → Leaves (tables_of w) (tables_of (turn K shape w))
  unfolding turn
  turn_leaves w = and_then (take_leaves w.state (tables_of w)) (go (take K shape w.state (tables_of w)).answer (moved K shape (take K shape w.state (tables_of w)) w))
    where
      go : (a : Answer) (v : World S) → Leaves (tables_of v) (tables_of (spend K shape a v))
      go done v = same
      go (granted b) v = settle_leaves b v.state (tables_of v)
      go (settled c n) v = same
      go (refused r) v = same

  turns_leave : (n : ℕ) (w : World S) → Leaves (tables_of w) (tables_of (turns K shape n w))
  turns_leave zero w = same
  turns_leave (suc n) w = and_then (turns_leave n w) (turn_leaves (turns K shape n w))

module _ {S : Type 0} (K : Operations S) (m : Meaning S) where
  -- The positions of a place are among the T.
  placed_within : (n : ℕ) → n < length (shape_of m).records →
      start m.P m.Q (shape_of m).records n + bins m.P m.Q (get_or m.places n no_place).entry.direction ≤ bins_of (shape_of m)
  placed_within n l =
      let here = place_within m.P m.Q (shape_of m).records n l in
      let entry = get_or-map (λ x. x.entry) m.places n no_place no_record (subst (λ k. n < k) (records_number K m) l) in
      subst (λ e. start m.P m.Q (shape_of m).records n + bins m.P m.Q e.direction ≤ bins_of (shape_of m)) entry here

  load_leaves : (n : ℕ) (t : Tables S) → Leaves K (shape_of m) t (load K (shape_of m) m n t).tables
  unfolding load with_place
  load_leaves n t = checked_leaves K (shape_of m) (short_sums (shape_of m) t) (loading n) t _ (go (leb (length (shape_of m).records) n) refl)
    where
      go : (c : Bool) → leb (length (shape_of m).records) n ≡ c → Leaves K (shape_of m) t (cond c (refuse (loading n) t (refusal 6 0 0 0))
          (cond (not (fits (shape_of m) m n)) (refuse (loading n) t (refusal 7 0 0 0))
          (served (loading (n + 1)) (record {
            picture = t.picture;
            marks = t.marks;
            sums = with_place K (shape_of m) (get_or m.places n no_place) n t.sums;
            counts = t.counts;
            queue = t.queue;
          }) done))).tables
      go true e = same
      go false e = either_leaves K (shape_of m) (not (fits (shape_of m) m n)) t _ _ same
          (record {
            picture = refl;
            marks = refl;
            sums = drop-written (bins_of (shape_of m)) _ _ _ t.sums (placed_within n (leb-false (length (shape_of m).records) n e));
            counts = refl;
            queue = refl;
          })

  loaded_leaves : (n : ℕ) (t : Tables S) → Leaves K (shape_of m) t (loaded K m n t)
  loaded_leaves zero t = same
  loaded_leaves (suc n) t = and_then (loaded_leaves n t) (load_leaves n (loaded K m n t))

  ends_leave : (a : Answer) (t : Tables S) → (ends K m a t).1 ≡ t
  ends_leave done t = refl
  ends_leave (granted b) t = refl
  ends_leave (settled c n) t = refl
  ends_leave (refused r) t = refl

  finishing_leaves : (w : World S) → Leaves K (shape_of m) (tables_of w) (finishing K m w).1
  finishing_leaves w = subst (Leaves K (shape_of m) (tables_of w)) (sym (ends_leave (finish K (shape_of m) w.state (tables_of w)).answer (tables_of w))) same

  sealing_leaves : (o : Outcome S) → Leaves K (shape_of m) o.tables (sealing K m o).1
  sealing_leaves o = go o.answer
    where
      peels : Leaves K (shape_of m) o.tables (finishing K m (turns K (shape_of m) (bins_of (shape_of m)) (world_of (state_of o.stage blank) o.tables))).1
      peels = and_then (turns_leave K (shape_of m) (bins_of (shape_of m)) (world_of (state_of o.stage blank) o.tables)) (finishing_leaves _)

      go : (a : Answer) → Leaves K (shape_of m) o.tables (peels_from K m a o).1
      go done = peels
      go (granted b) = peels
      go (settled c n) = peels
      go (refused r) = same

  tables_leave : (k : ℕ) (t : Tables S) → Leaves K (shape_of m) t (with_tables K m k t).1
  tables_leave (suc k) t = same
  tables_leave zero t =
      and_then (loaded_leaves (length m.places) t)
      (and_then (seal_leaves K (shape_of m) (length m.places) (loaded K m (length m.places) t)) (sealing_leaves (seal K (shape_of m) (length m.places) (loaded K m (length m.places) t))))

  worker_leaves : (t : Tables S) → Leaves K (shape_of m) t (one_worker K m t).1
  unfolding one_worker
  worker_leaves t = go (verdict (shape_of m))
    where
      go : (o : Option Refusal) → Leaves K (shape_of m) t (judged K m o t).1
      go (Some r) = same
      go None = tables_leave (short (shape_of m) t) t

-- The tile of a rack ------------------------------------------------------------------------------------------------

entries : {S : Type 0} (P Q : ℕ) (records : List Record) (run : List S) → map (λ x. x.entry) (cut P Q records run) ≡ records
entries P Q [] run = refl
entries P Q (e ∷ records) run = ap (λ l. e ∷ l) (entries P Q records (drop (bins P Q e.direction) run))

pub rebuilding_leaves : (P Q : ℕ) (records : List Record) (run : List SumWord) (t : Tables SumWord) →
    SameBeyond (P * Q) (all_bins P Q records) t (rebuilding P Q records run t).1
rebuilding_leaves P Q records run t = go (verdict (record { P = P; Q = Q; records = records }))
  where
    made : SameBeyond (P * Q) (all_bins P Q records) t (works (outcomes.served (rack_meaning P Q records run)) t).1
    made = subst (λ es. SameBeyond (P * Q) (all_bins P Q es) t (one_worker sum_operations (rack_meaning P Q records run) t).1)
        (entries P Q records run) (worker_leaves sum_operations (rack_meaning P Q records run) t)

    fits_run : (c : Bool) →
        SameBeyond (P * Q) (all_bins P Q records) t
        (works (cond c (outcomes.served (rack_meaning P Q records run)) (outcomes.refuses (refusal 19 (all_bins P Q records) 0 0))) t).1
    fits_run true = made
    fits_run false = same

    go : (o : Option Refusal) →
        SameBeyond (P * Q) (all_bins P Q records) t
        (works (questions.checked o (cond (eqb (length run) (all_bins P Q records)) (outcomes.served (rack_meaning P Q records run)) (outcomes.refuses (refusal 19 (all_bins P Q records) 0 0)))) t).1
    go (Some r) = same
    go None = fits_run (eqb (length run) (all_bins P Q records))

-- The sums of a file ------------------------------------------------------------------------------------------------

module _ (m : Meaning SumWord) where
  laid_leaves : (n : ℕ) (sums : List SumWord) → n ≤ length m.places → drop (bins_of (shape_of m)) (laid m n sums) ≡ drop (bins_of (shape_of m)) sums
  unfolding with_place
  laid_leaves zero sums l = refl
  laid_leaves (suc n) sums l =
      drop-written (bins_of (shape_of m)) _ _ _ (laid m n sums) (placed_within sum_operations m n (subst (λ k. n < k) (sym (records_number sum_operations m)) (omega arith)))
      ∙ laid_leaves n sums (omega arith)

-- what loading a file leaves where its sums are too short, and else
abbrev pub ending : Meaning SumWord → List SumWord → Bool → Loaded
ending m sums c = cond c (record { answer = outcomes.refuses (refusal 5 3 0 0); sums = sums }) (record { answer = outcomes.served (bins_of (shape_of m)); sums = laid m (length m.places) sums })

-- Behind as many cells as a call that asks a file tells, the sums are as they were.
pub asking_leaves : (made : outcomes.Outcome (Meaning SumWord)) (sums : List SumWord) →
    drop (told (file_loading made sums).answer).0 (file_loading made sums).sums ≡ drop (told (file_loading made sums).answer).0 sums
asking_leaves (outcomes.refuses r) sums = refl
asking_leaves (outcomes.served m) sums = go (ltb (length sums) (bins_of (shape_of m)))
  where
    go : (c : Bool) → drop (told (ending m sums c).answer).0 (ending m sums c).sums ≡ drop (told (ending m sums c).answer).0 sums
    go true = refl
    go false = laid_leaves m (length m.places) sums (omega arith)
