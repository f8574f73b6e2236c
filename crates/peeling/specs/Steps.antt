-- The peeling state and its five tables, and what each call makes of them.
use Rattle.std.specs.Prelude.{ℕ, zero, suc, ◌+◌, ◌-◌, ◌%◌, min, Bool, cond, not, ◌&&◌, List, ◌==◌, nat_lt, slice_index, slice_index_or, slice_set}
use Rattle.peeling.specs.declared.state.State.{State}
use Rattle.samples.specs.declared.kind.Kind.{Ghosts as Operations}
use Rattle.peeling.specs.Counting.{number, least}
use Rattle.peeling.specs.Incidence.{Incidence}

-- the counts of the state stop here
abbrev pub most : ℕ
most = 4294967295

abbrev pub one_more : ℕ → ℕ
one_more n = min (n + 1) most

-- The state and the queue, of T positions ----------------------------------------------------------------------

-- one more waits
unfoldable pub one_waits : State → State
one_waits s = record { head = s.head; waiting = one_more s.waiting; out = s.out; left = s.left; settled = s.settled }

-- A position is appended behind those that wait, unless T or more wait: the state and the queue after that.
unfoldable pub appended : ℕ → State → State
appended T s = cond (nat_lt s.waiting T) (one_waits s) s

unfoldable pub queue_with : ℕ → State → ℕ → List ℕ → List ℕ
queue_with T s b queue = cond (nat_lt s.waiting T) (slice_set queue ((s.head + s.waiting) % T) b) queue

-- what a take answers
pub data Taken : Type 0 where
  none_waits : Taken
  bad_cell : ℕ → Taken
  grants : ℕ → Taken

abbrev pub Refused : Taken → Type 0
Refused none_waits = Unit {0}
Refused (bad_cell i) = Unit {0}
Refused (grants b) = ⊥

-- the position in the cell at the head
unfoldable pub front : ℕ → State → List ℕ → ℕ
front T s queue = slice_index queue (s.head % T)

unfoldable pub take_answers : ℕ → State → List ℕ → Taken
take_answers T s queue = cond (s.waiting == 0) none_waits
    (cond (nat_lt (front T s queue) T) (grants (front T s queue)) (bad_cell (s.head % T)))

-- after a take that grants
unfoldable pub taken : ℕ → State → State
taken T s = record { head = (s.head + 1) % T; waiting = s.waiting - 1; out = one_more s.out; left = s.left; settled = s.settled }

-- a grant is settled
unfoldable pub spent : State → State
spent s = record { head = s.head; waiting = s.waiting; out = s.out - 1; left = s.left; settled = one_more s.settled }

-- a grant is handed in
unfoldable pub handed_in : State → State
handed_in s = record { head = s.head; waiting = s.waiting; out = s.out - 1; left = s.left; settled = s.settled }

-- a pixel is found
unfoldable pub one_found : State → State
one_found s = record { head = s.head; waiting = s.waiting; out = s.out; left = s.left - 1; settled = s.settled }

-- what a finish answers
pub data Finished : Type 0 where
  pixels_missing : ℕ → Finished
  grants_out : ℕ → Finished
  left_over : ℕ → Finished
  served : Finished

-- the first position whose sum is not zero
unfoldable pub first_left_over : {A : Type 0} → Operations A → ℕ → List A → ℕ
first_left_over K T sums = least T (λ b. not (K.equal (slice_index_or sums b K.zero) K.zero))

unfoldable pub finish_answers : {A : Type 0} → Operations A → ℕ → State → List A → Finished
finish_answers K T s sums = cond (nat_lt 0 s.left) (pixels_missing s.left)
    (cond (nat_lt 0 s.out) (grants_out s.out)
    (cond (nat_lt (first_left_over K T sums) T) (left_over (first_left_over K T sums)) served))

-- The state with all five tables -------------------------------------------------------------------------------

pub record World (A : Type 0) : Type 0 where
  pub state : State
  pub picture : List A
  pub marks : List ℕ
  pub sums : List A
  pub counts : List ℕ
  pub queue : List ℕ

abbrev pub world : {A : Type 0} → State → List A → List ℕ → List A → List ℕ → List ℕ → World A
world s p m b c q = record { state = s; picture = p; marks = m; sums = b; counts = c; queue = q }

-- xs with f i in each cell i below n
unfoldable pub filled : {X : Type 0} → ℕ → (ℕ → X) → List X → List X
filled zero f xs = xs
filled (suc n) f xs = slice_set (filled n f xs) n (f n)

-- the world with another state
abbrev pub with_state : {A : Type 0} → State → World A → World A
with_state s w = record { state = s; picture = w.picture; marks = w.marks; sums = w.sums; counts = w.counts; queue = w.queue }

-- position b is appended
unfoldable pub append : {A : Type 0} → ℕ → ℕ → World A → World A
append T b w = record {
  state = appended T w.state;
  picture = w.picture;
  marks = w.marks;
  sums = w.sums;
  counts = w.counts;
  queue = queue_with T w.state b w.queue;
}

-- the positions below k whose count is 1 are appended, rising
unfoldable pub queue_singles : {A : Type 0} → ℕ → ℕ → World A → World A
queue_singles T zero w = w
queue_singles T (suc k) w = cond (slice_index (queue_singles T k w).counts k == 1)
    (append T k (queue_singles T k w))
    (queue_singles T k w)

-- v is taken off the sum of bin b, and its count falls by 1.
unfoldable pub lowered : {A : Type 0} → Operations A → A → ℕ → World A → World A
lowered K v b w = record {
  state = w.state;
  picture = w.picture;
  marks = w.marks;
  sums = slice_set w.sums b (K.plus (slice_index_or w.sums b K.zero) (K.inverse v));
  counts = slice_set w.counts b (slice_index w.counts b - 1);
  queue = w.queue;
}

-- The same, and where the count becomes 1, b is appended.
unfoldable pub take_off : {A : Type 0} → Operations A → ℕ → A → ℕ → World A → World A
take_off K T v b w = cond (slice_index w.counts b - 1 == 1) (append T b (lowered K v b w)) (lowered K v b w)

-- pixel c takes the value v, and is found
unfoldable pub placed : {A : Type 0} → ℕ → A → World A → World A
placed c v w = record {
  state = one_found w.state;
  picture = slice_set w.picture c v;
  marks = slice_set w.marks c 1;
  sums = w.sums;
  counts = w.counts;
  queue = w.queue;
}

-- pixel c lies in bin b, and its mark says that it is missing
unfoldable pub open_in : {A : Type 0} → Incidence → World A → ℕ → ℕ → Bool
open_in I w b c = I.lies c b && slice_index w.marks c == 0

-- The calls -----------------------------------------------------------------------------------------------------

module _ {A : Type 0} (K : Operations A) (I : Incidence) where
  -- picture and marks zeroed, each count the number of pixels in the bin, nothing queued
  unfoldable pub zeroed : World A → World A
  zeroed w = record {
    state = record { head = 0; waiting = 0; out = 0; left = I.pixels; settled = 0 };
    picture = filled I.pixels (λ c. K.zero) w.picture;
    marks = filled I.pixels (λ c. 0) w.marks;
    sums = w.sums;
    counts = filled I.bins (λ b. number I.pixels (λ c. I.lies c b)) w.counts;
    queue = w.queue;
  }

  -- An accepted seal, on tables of which `sums` is loaded.
  unfoldable pub seal : World A → World A
  seal w = queue_singles I.bins I.bins (zeroed w)

  -- v is taken off the bins below k in which pixel c lies, rising
  unfoldable pub take_off_all : ℕ → A → ℕ → World A → World A
  take_off_all c v zero w = w
  take_off_all c v (suc k) w = cond (I.lies c k) (take_off K I.bins v k (take_off_all c v k w)) (take_off_all c v k w)

  -- Pixel c takes the value v, which is taken off each bin that it lies in.
  unfoldable pub find : ℕ → A → World A → World A
  find c v w = take_off_all c v I.bins (placed c v w)

  -- where exactly one pixel of bin b is missing, it takes the bin's sum
  unfoldable pub peeled : ℕ → World A → World A
  peeled b w = cond (number I.pixels (open_in I w b) == 1)
      (find (least I.pixels (open_in I w b)) (slice_index_or w.sums b K.zero) w)
      w

  -- A take that grants.
  abbrev pub take : World A → World A
  take w = with_state (taken I.bins w.state) w

  -- A settle of the granted position b.
  abbrev pub settle : ℕ → World A → World A
  settle b w = with_state (spent (peeled b w).state) (peeled b w)

  -- A give back of the granted position b.
  abbrev pub give_back : ℕ → World A → World A
  give_back b w = append I.bins b (with_state (handed_in w.state) w)
