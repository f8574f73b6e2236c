-- What appending, and the loops of seal and settle, make of a world.
use Rattle.std.proofs.Common.{◌≡◌, ℕ, zero, suc, ◌+◌, ◌-◌, ◌%◌, ◌<◌, ◌≤◌, min, Bool, true, false, cond, ◌&&◌, eqb, ltb, List, length, get_or, set, sym, refl, ap, ◌∙◌, subst, arith}
use Rattle.std.proofs.lemmas.Bool.{ltb-false, and_from}
use Rattle.peeling.specs.declared.state.State.{State}
use Rattle.samples.specs.declared.kind.Kind.{Ghosts as Operations}
use Rattle.peeling.specs.Incidence.{Incidence}
use Rattle.peeling.specs.Steps.{World, most, one_waits, appended, queue_with, append, queue_singles, lowered, take_off, take_off_all}
use Rattle.peeling.proofs.Rings.{Ring, ring_same, ring_more, ring_skip, up_to, up_to_none}
use Rattle.peeling.proofs.Loops.{Changed, changed_none, changed_more, changed_skip}

-- v has the picture, marks, left, out and settled of w
pub record Framed {A : Type 0} (v w : World A) : Type 0 where
  pub picture : v.picture ≡ w.picture
  pub marks : v.marks ≡ w.marks
  pub left : v.state.left ≡ w.state.left
  pub out : v.state.out ≡ w.state.out
  pub settled : v.state.settled ≡ w.state.settled

pub framed_refl : {A : Type 0} (w : World A) → Framed w w
framed_refl w = record { picture = refl; marks = refl; left = refl; out = refl; settled = refl }

pub framed_then : {A : Type 0} (u v w : World A) → Framed u v → Framed v w → Framed u w
framed_then u v w p q = record {
  picture = p.picture ∙ q.picture;
  marks = p.marks ∙ q.marks;
  left = p.left ∙ q.left;
  out = p.out ∙ q.out;
  settled = p.settled ∙ q.settled;
}

-- the ring of a world holds the positions of W
abbrev pub Holds : {A : Type 0} → Incidence → World A → (ℕ → Bool) → Type 0
Holds I w W = Ring I.bins w.state.head w.state.waiting w.queue W

appended_left : (T : ℕ) (s : State) → (appended T s).left ≡ s.left
unfolding appended one_waits
appended_left T s = go (ltb s.waiting T)
  where
    go : (t : Bool) → (cond t (one_waits s) s).left ≡ s.left
    go true = refl
    go false = refl

appended_out : (T : ℕ) (s : State) → (appended T s).out ≡ s.out
unfolding appended one_waits
appended_out T s = go (ltb s.waiting T)
  where
    go : (t : Bool) → (cond t (one_waits s) s).out ≡ s.out
    go true = refl
    go false = refl

appended_settled : (T : ℕ) (s : State) → (appended T s).settled ≡ s.settled
unfolding appended one_waits
appended_settled T s = go (ltb s.waiting T)
  where
    go : (t : Bool) → (cond t (one_waits s) s).settled ≡ s.settled
    go true = refl
    go false = refl

appended_ring : (T : ℕ) → T ≤ most → (s : State) (b : ℕ) (q : List ℕ) (W : ℕ → Bool) → s.waiting < T →
    Ring T s.head (s.waiting + 1) (set q ((s.head + s.waiting) % T) b) W →
    Ring T (appended T s).head (appended T s).waiting (queue_with T s b q) W
unfolding appended one_waits queue_with
appended_ring T fits s b q W room r = go (ltb s.waiting T) refl
  where
    one : s.waiting + 1 ≡ min (s.waiting + 1) most
    one = omega arith

    go : (t : Bool) → ltb s.waiting T ≡ t →
        Ring T (cond t (one_waits s) s).head (cond t (one_waits s) s).waiting (cond t (set q ((s.head + s.waiting) % T) b) q) W
    go true e = subst (λ x. Ring T s.head x (set q ((s.head + s.waiting) % T) b) W) one r
    go false e = absurd (let k = ltb-false _ _ e in omega arith)

module _ {A : Type 0} (K : Operations A) (I : Incidence) where
  pub append_framed : (b : ℕ) (w : World A) → Framed (append I.bins b w) w
  unfolding append
  append_framed b w = record {
    picture = refl;
    marks = refl;
    left = appended_left I.bins w.state;
    out = appended_out I.bins w.state;
    settled = appended_settled I.bins w.state;
  }

  pub append_sums : (b : ℕ) (w : World A) → (append I.bins b w).sums ≡ w.sums
  unfolding append
  append_sums b w = refl

  pub append_counts : (b : ℕ) (w : World A) → (append I.bins b w).counts ≡ w.counts
  unfolding append
  append_counts b w = refl

  module _ (fits : I.bins ≤ most) where
    pub append_holds : (b : ℕ) (w : World A) (W : ℕ → Bool) → w.state.waiting < I.bins →
        Ring I.bins w.state.head (w.state.waiting + 1) (set w.queue ((w.state.head + w.state.waiting) % I.bins) b) W →
        Holds I (append I.bins b w) W
    unfolding append
    append_holds b w W room r = appended_ring I.bins fits w.state b w.queue W room r

    -- the loop of seal
    pub record Queued (w : World A) (k : ℕ) (u : World A) : Type 0 where
      pub frame : Framed u w
      pub sums : u.sums ≡ w.sums
      pub counts : u.counts ≡ w.counts
      pub ring : Holds I u (up_to (λ b. false) (λ b. eqb (get_or w.counts b 0) 1) k)

    queued_next : (w : World A) (k : ℕ) (u : World A) → Queued w k u → k < I.bins →
        (t : Bool) → eqb (get_or u.counts k 0) 1 ≡ t → Queued w (suc k) (cond t (append I.bins k u) u)
    queued_next w k u q l true e =
        let more = ring_more I.bins u.state.head u.state.waiting u.queue (λ b. false) (λ b. eqb (get_or w.counts b 0) 1) k q.ring l
        (ap (λ x. eqb (get_or x k 0) 1) (sym q.counts) ∙ e) refl in
        record {
          frame = framed_then _ _ _ (append_framed k u) q.frame;
          sums = append_sums k u ∙ q.sums;
          counts = append_counts k u ∙ q.counts;
          ring = append_holds k u _ more.0 more.1;
        }
    queued_next w k u q l false e = record {
      frame = q.frame;
      sums = q.sums;
      counts = q.counts;
      ring = ring_skip I.bins u.state.head u.state.waiting u.queue (λ b. false) (λ b. eqb (get_or w.counts b 0) 1) k q.ring
          (ap (λ x. eqb (get_or x k 0) 1) (sym q.counts) ∙ e);
    }

    pub queued : (w : World A) → Holds I w (λ b. false) → (k : ℕ) → k ≤ I.bins → Queued w k (queue_singles I.bins k w)
    unfolding queue_singles
    queued w r zero l = record {
      frame = framed_refl w;
      sums = refl;
      counts = refl;
      ring = ring_same I.bins w.state.head w.state.waiting w.queue _ _ r (λ b m. sym (up_to_none (λ b. false) (λ b. eqb (get_or w.counts b 0) 1) b));
    }
    queued w r (suc k) l = queued_next w k (queue_singles I.bins k w) (queued w r k (omega arith)) (omega arith)
        (eqb (get_or (queue_singles I.bins k w).counts k 0) 1) refl

    -- the loop of settle: v is taken off the bins below k in which pixel c lies; X has those that come down to one
    module _ (c : ℕ) (v : A) (w : World A) (W : ℕ → Bool) where
      abbrev pub Down : ℕ → Bool
      Down b = I.lies c b && eqb (get_or w.counts b 0 - 1) 1

      pub record TakenOff (k : ℕ) (u : World A) : Type 0 where
        pub frame : Framed u w
        pub sums : Changed K.zero (I.lies c) (λ a. K.plus a (K.inverse v)) k w.sums u.sums
        pub counts : Changed 0 (I.lies c) (λ a. a - 1) k w.counts u.counts
        pub ring : Holds I u (up_to W Down k)

      lowered_next : (k : ℕ) (u : World A) → TakenOff k u → k < I.bins → I.bins ≤ length w.sums → I.bins ≤ length w.counts →
          I.lies c k ≡ true → (Down k ≡ true → W k ≡ false) →
          (t : Bool) → eqb (get_or u.counts k 0 - 1) 1 ≡ t → TakenOff (suc k) (cond t (append I.bins k (lowered K v k u)) (lowered K v k u))
      unfolding lowered
      lowered_next k u q l sl cl on apart true e =
          let down : Down k ≡ true = and_from _ _ on (ap (λ x. eqb (x - 1) 1) (sym (q.counts.ahead k (omega arith))) ∙ e) in
          let more = ring_more I.bins u.state.head u.state.waiting u.queue W Down k q.ring l down (apart down) in
          record {
            frame = framed_then _ _ _ (append_framed k (lowered K v k u)) (record {
              picture = q.frame.picture;
              marks = q.frame.marks;
              left = q.frame.left;
              out = q.frame.out;
              settled = q.frame.settled;
            });
            sums = subst (λ x. Changed K.zero (I.lies c) (λ a. K.plus a (K.inverse v)) (suc k) w.sums x)
                (sym (append_sums k (lowered K v k u)))
                (changed_more K.zero (I.lies c) (λ a. K.plus a (K.inverse v)) k w.sums u.sums q.sums (omega arith) on);
            counts = subst (λ x. Changed 0 (I.lies c) (λ a. a - 1) (suc k) w.counts x)
                (sym (append_counts k (lowered K v k u)))
                (changed_more 0 (I.lies c) (λ a. a - 1) k w.counts u.counts q.counts (omega arith) on);
            ring = append_holds k (lowered K v k u) _ more.0 more.1;
          }
      lowered_next k u q l sl cl on apart false e = record {
        frame = record {
          picture = q.frame.picture;
          marks = q.frame.marks;
          left = q.frame.left;
          out = q.frame.out;
          settled = q.frame.settled;
        };
        sums = changed_more K.zero (I.lies c) (λ a. K.plus a (K.inverse v)) k w.sums u.sums q.sums (omega arith) on;
        counts = changed_more 0 (I.lies c) (λ a. a - 1) k w.counts u.counts q.counts (omega arith) on;
        ring = ring_skip I.bins u.state.head u.state.waiting u.queue W Down k q.ring
            (ap (λ x. x && eqb (get_or w.counts k 0 - 1) 1) on ∙ ap (λ x. eqb (x - 1) 1) (sym (q.counts.ahead k (omega arith))) ∙ e);
      }

      taken_off_next : (k : ℕ) (u : World A) → TakenOff k u → k < I.bins → I.bins ≤ length w.sums → I.bins ≤ length w.counts →
          (Down k ≡ true → W k ≡ false) →
          (t : Bool) → I.lies c k ≡ t → TakenOff (suc k) (cond t (take_off K I.bins v k u) u)
      unfolding take_off
      taken_off_next k u q l sl cl apart true e = lowered_next k u q l sl cl e apart (eqb (get_or u.counts k 0 - 1) 1) refl
      taken_off_next k u q l sl cl apart false e = record {
        frame = q.frame;
        sums = changed_skip K.zero (I.lies c) (λ a. K.plus a (K.inverse v)) k w.sums u.sums q.sums e;
        counts = changed_skip 0 (I.lies c) (λ a. a - 1) k w.counts u.counts q.counts e;
        ring = ring_skip I.bins u.state.head u.state.waiting u.queue W Down k q.ring (ap (λ x. x && eqb (get_or w.counts k 0 - 1) 1) e);
      }

      pub taken_off : Holds I w W → I.bins ≤ length w.sums → I.bins ≤ length w.counts →
          ((b : ℕ) → b < I.bins → Down b ≡ true → W b ≡ false) →
          (k : ℕ) → k ≤ I.bins → TakenOff k (take_off_all K I c v k w)
      unfolding take_off_all
      taken_off r sl cl apart zero l = record {
        frame = framed_refl w;
        sums = changed_none K.zero (I.lies c) (λ a. K.plus a (K.inverse v)) w.sums;
        counts = changed_none 0 (I.lies c) (λ a. a - 1) w.counts;
        ring = ring_same I.bins w.state.head w.state.waiting w.queue _ _ r (λ b m. sym (up_to_none W Down b));
      }
      taken_off r sl cl apart (suc k) l =
          taken_off_next k (take_off_all K I c v k w) (taken_off r sl cl apart k (omega arith)) (omega arith) sl cl (apart k (omega arith)) (I.lies c k) refl
