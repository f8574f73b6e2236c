-- What every call keeps.
use Rattle.std.proofs.Common.{◌≡◌, ℕ, ◌<◌, ◌≤◌, false, ◌&&◌, eqb, List, length, get_or, sym, ap, ◌∙◌, subst}
use Rattle.samples.specs.declared.kind.Kind.{Ghosts as Operations}
use Rattle.peeling.specs.Counting.{tally, number}
use Rattle.peeling.specs.Incidence.{Incidence, Agrees, loaded}
use Rattle.peeling.specs.Steps.{World}
use Rattle.peeling.specs.History.{History, missing, missing_in, waits, out, settles}
use Rattle.peeling.proofs.Counts.{number_same}
use Rattle.peeling.proofs.Worlds.{Holds}
use Rattle.peeling.proofs.Grants.{Grants}
use Rattle.peeling.proofs.Values.{found_sum, found_sum_same}

-- the state and the queue
pub record Counters {A : Type 0} (I : Incidence) (h : History) (w : World A) : Type 0 where
  pub grants : Grants I h
  pub ring : Holds I w (waits I h)
  pub out : w.state.out ≡ tally I.bins (out h)
  pub settled : w.state.settled ≡ settles h

-- marks, counts and left
pub record Marked {A : Type 0} (I : Incidence) (h : History) (w : World A) : Type 0 where
  pub marks_long : I.pixels ≤ length w.marks
  pub counts_long : I.bins ≤ length w.counts
  pub marks : (c : ℕ) → c < I.pixels → eqb (get_or w.marks c 0) 0 ≡ missing I h c
  pub counts : (b : ℕ) → b < I.bins → get_or w.counts b 0 ≡ missing_in I h b
  pub left : w.state.left ≡ number I.pixels (missing I h)

-- picture and sums
pub record Valued {A : Type 0} (K : Operations A) (I : Incidence) (source : ℕ → A) (h : History) (w : World A) : Type 0 where
  pub picture_long : I.pixels ≤ length w.picture
  pub sums_long : I.bins ≤ length w.sums
  pub balance : (b : ℕ) → b < I.bins → loaded K I source b ≡ K.plus (get_or w.sums b K.zero) (found_sum K I h w.picture b)
  pub right : (c : ℕ) → c < I.pixels → missing I h c ≡ false → (t : List A) → Agrees K I source t → get_or w.picture c K.zero ≡ get_or t c K.zero

pub record Kept {A : Type 0} (K : Operations A) (I : Incidence) (source : ℕ → A) (h : History) (w : World A) : Type 0 where
  pub counters : Counters I h w
  pub marked : Marked I h w
  pub valued : Valued K I source h w

-- A call that leaves what is missing, and the tables in question.
pub marked_same : {A : Type 0} (I : Incidence) (h k : History) (w v : World A) → Marked I h w → ((c : ℕ) → missing I k c ≡ missing I h c) →
    v.marks ≡ w.marks → v.counts ≡ w.counts → v.state.left ≡ w.state.left → Marked I k v
marked_same I h k w v m same marks counts left = record {
  marks_long = subst (λ x. I.pixels ≤ length x) (sym marks) m.marks_long;
  counts_long = subst (λ x. I.bins ≤ length x) (sym counts) m.counts_long;
  marks = λ c l. ap (λ x. eqb (get_or x c 0) 0) marks ∙ m.marks c l ∙ sym (same c);
  counts = λ b l. ap (λ x. get_or x b 0) counts ∙ m.counts b l ∙ number_same I.pixels _ _ (λ c k. ap (λ x. I.lies c b && x) (sym (same c)));
  left = left ∙ m.left ∙ number_same I.pixels _ _ (λ c k. sym (same c));
}

pub valued_same : {A : Type 0} (K : Operations A) (I : Incidence) (source : ℕ → A) (h k : History) (w v : World A) → Valued K I source h w →
    ((c : ℕ) → missing I k c ≡ missing I h c) → v.picture ≡ w.picture → v.sums ≡ w.sums → Valued K I source k v
valued_same K I source h k w v m same picture sums = record {
  picture_long = subst (λ x. I.pixels ≤ length x) (sym picture) m.picture_long;
  sums_long = subst (λ x. I.bins ≤ length x) (sym sums) m.sums_long;
  balance = λ b l. m.balance b l
      ∙ ap (λ x. K.plus (get_or x b K.zero) (found_sum K I h w.picture b)) (sym sums)
      ∙ ap (K.plus (get_or v.sums b K.zero))
      (found_sum_same K I h k w.picture v.picture b (λ c i. sym (same c)) (λ c i. ap (λ x. get_or x c K.zero) (sym picture)));
  right = λ c l e t g. ap (λ x. get_or x c K.zero) picture ∙ m.right c l (sym (same c) ∙ e) t g;
}
