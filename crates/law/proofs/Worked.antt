-- The worked lives, run call by call.
use Rattle.std.proofs.Common.{◌≡◌, ℕ, Bool, true, false, ltb, [], ◌∷◌, refl, subst, lit≤}
use Rattle.std.proofs.lemmas.Bool.{ltb-true}
use Rattle.samples.specs.declared.words.SumWord.{SumWord}
use Rattle.samples.specs.Kinds.{sum_words}
use Rattle.samples.specs.Words.{sum_of}
use Rattle.mojette.specs.Directions.{gcd}
use Rattle.mojette.specs.Meaning.{Meaning, Lawful, shape_of, verdict}
use Rattle.peeling.specs.Counting.{tally, number, least}
use Rattle.peeling.specs.History.{out}
use Rattle.peeling.specs.Steps.{one_waits, appended, queue_with, front, take_answers, taken, spent, one_found, handed_in, first_left_over, finish_answers, filled, append, queue_singles, lowered, take_off, placed, open_in, zeroed, take_off_all, find, peeled}
use Rattle.peeling.specs.Steps.{seal as peel_seal}
use Rattle.law.specs.Positions.{whole_at, lies_at, place_at, bin_at}
use Rattle.mojette.specs.Refusals.{refusal}
use Rattle.peeling.specs.declared.state.State.{State}
use Rattle.law.specs.Steps.{Stage, loading, peeling, finished, Tables, refused, short, short_sums, short_queue, fits, written, with_place, ghosted, load, seal, take, finds, settle, give_back, finish}
use Rattle.law.specs.Life.{History, finishes, event, since_seal, load_does, seal_does, take_does, settle_does, give_back_does, finish_does, Life, born, then}
use Rattle.law.specs.Worked.{example, diagonal, contradiction, two_workers, cells, Ends, GivesBack, IsRefused, IsContradicted, Worked, WorkedFurther}

lawful_example : Lawful (shape_of example)
unfolding verdict gcd
lawful_example = refl

lawful_contradiction : Lawful (shape_of contradiction)
unfolding verdict gcd
lawful_contradiction = refl

lawful_diagonal : Lawful (shape_of diagonal)
unfolding verdict gcd
lawful_diagonal = refl

-- tables that hold anything
abbrev anything : Tables SumWord
anything = record {
  picture = sum_of 9 ∷ sum_of 9 ∷ sum_of 9 ∷ sum_of 9 ∷ sum_of 9 ∷ [];
  marks = 9 ∷ 9 ∷ 9 ∷ 9 ∷ [];
  sums = sum_of 9 ∷ sum_of 9 ∷ sum_of 9 ∷ sum_of 9 ∷ sum_of 9 ∷ sum_of 9 ∷ sum_of 9 ∷ sum_of 9 ∷ [];
  counts = 9 ∷ 9 ∷ 9 ∷ 9 ∷ 9 ∷ 9 ∷ 9 ∷ 9 ∷ [];
  queue = 99 ∷ 99 ∷ 99 ∷ 99 ∷ 99 ∷ 99 ∷ 99 ∷ 99 ∷ [];
}

-- a life that goes on
record Now (m : Meaning SumWord) : Type 0 where
  calls : History
  stage : Stage
  tables : Tables SumWord
  life : Life sum_words m calls stage tables

module _ {m : Meaning SumWord} where
  same : (h : History) (stage : Stage) (t : Tables SumWord) → Life sum_words m h stage t → Now m
  same h stage t l = record { calls = h; stage = stage; tables = t; life = l }

  load_on : (h : History) (stage : Stage) (t : Tables SumWord) → Life sum_words m h stage t → Now m
  load_on h (loading n) t l = same _ _ _ (then l load_does tt)
  load_on h (peeling s) t l = same h (peeling s) t l
  load_on h finished t l = same h finished t l

  seal_on : (h : History) (stage : Stage) (t : Tables SumWord) → Life sum_words m h stage t → Now m
  seal_on h (loading n) t l = same _ _ _ (then l seal_does tt)
  seal_on h (peeling s) t l = same h (peeling s) t l
  seal_on h finished t l = same h finished t l

  take_on : (h : History) (stage : Stage) (t : Tables SumWord) → Life sum_words m h stage t → Now m
  take_on h (loading n) t l = same h (loading n) t l
  take_on h (peeling s) t l = same _ _ _ (then l take_does tt)
  take_on h finished t l = same h finished t l

  settle_on : (b : ℕ) (h : History) (stage : Stage) (t : Tables SumWord) → Life sum_words m h stage t → Now m
  settle_on b h (loading n) t l = same h (loading n) t l
  settle_on b h (peeling s) t l = go (ltb 0 (out (since_seal h) b)) refl
    where
      go : (x : Bool) → ltb 0 (out (since_seal h) b) ≡ x → Now m
      go true e = same _ _ _ (then l settle_does (ltb-true _ _ e))
      go false e = same h (peeling s) t l
  settle_on b h finished t l = same h finished t l

  give_back_on : (b : ℕ) (h : History) (stage : Stage) (t : Tables SumWord) → Life sum_words m h stage t → Now m
  give_back_on b h (loading n) t l = same h (loading n) t l
  give_back_on b h (peeling s) t l = go (ltb 0 (out (since_seal h) b)) refl
    where
      go : (x : Bool) → ltb 0 (out (since_seal h) b) ≡ x → Now m
      go true e = same _ _ _ (then l give_back_does (ltb-true _ _ e))
      go false e = same h (peeling s) t l
  give_back_on b h finished t l = same h finished t l

  finish_on : (h : History) (stage : Stage) (t : Tables SumWord) → Life sum_words m h stage t → Now m
  finish_on h (loading n) t l = same h (loading n) t l
  finish_on h (peeling s) t l = same _ _ _ (then l finish_does tt)
  finish_on h finished t l = same h finished t l

  abbrev with_now : ((h : History) (stage : Stage) (t : Tables SumWord) → Life sum_words m h stage t → Now m) → Now m → Now m
  with_now f w = f w.calls w.stage w.tables w.life

  peel_one : ℕ → Now m → Now m
  peel_one b w = with_now (settle_on b) (with_now take_on w)

-- The tile that ends ----------------------------------------------------------------------------------------------

birth : Now example
birth = same _ _ _ (born {t = anything} lawful_example
    (record { picture = lit≤ tt; marks = lit≤ tt; sums = lit≤ tt; counts = lit≤ tt; queue = lit≤ tt }))

sealed : Now example
sealed = with_now seal_on (with_now load_on (with_now load_on (with_now load_on birth)))

end : Now example
end = with_now finish_on (peel_one 7 (peel_one 5 (peel_one 2 (peel_one 0 sealed))))

end_is : (end.stage ≡ finished) × (cells example end.tables ≡ 1 ∷ 2 ∷ 3 ∷ 4 ∷ [])
unfolding end peel_one take_on settle_on finish_on sealed birth same load_on seal_on load seal take settle finish short short_sums short_queue fits with_place written peel_seal queue_singles append appended one_waits queue_with zeroed filled number tally least whole_at lies_at front take_answers taken spent one_found first_left_over finish_answers lowered take_off placed open_in take_off_all find peeled since_seal out
end_is = (refl, refl)

ends : Ends
ends = record {
  calls = end.calls;
  tables = end.tables;
  life = subst (λ x. Life sum_words example end.calls x end.tables) end_is.0 end.life;
  shows = end_is.1;
}

-- The tile of two workers -----------------------------------------------------------------------------------------

shared : Now example
shared =
    with_now finish_on (peel_one 0 (peel_one 7 (peel_one 5
    (with_now (settle_on 2) (with_now (give_back_on 0) (with_now take_on (with_now take_on sealed)))))))

shared_is : (shared.calls ≡ two_workers) × (shared.stage ≡ finished) × (cells example shared.tables ≡ 1 ∷ 2 ∷ 3 ∷ 4 ∷ [])
unfolding shared give_back_on give_back handed_in finds peel_one take_on settle_on finish_on sealed birth same load_on seal_on load seal take settle finish short short_sums short_queue fits with_place written peel_seal queue_singles append appended one_waits queue_with zeroed filled number tally least whole_at lies_at front take_answers taken spent one_found first_left_over finish_answers lowered take_off placed open_in take_off_all find peeled since_seal out
shared_is = (refl, refl, refl)

gives_back : GivesBack
gives_back = record {
  tables = shared.tables;
  life = subst (λ h. Life sum_words example h finished shared.tables) shared_is.0
      (subst (λ x. Life sum_words example shared.calls x shared.tables) shared_is.1 shared.life);
  shows = shared_is.2;
}

-- The tile that is contradicted -----------------------------------------------------------------------------------

peeled_out : Now contradiction
peeled_out =
    peel_one 1 (peel_one 4 (peel_one 5 (peel_one 3 (peel_one 2 (peel_one 0
    (with_now seal_on (with_now load_on (with_now load_on (same _ _ _ (born {t = anything} lawful_contradiction
    (record { picture = lit≤ tt; marks = lit≤ tt; sums = lit≤ tt; counts = lit≤ tt; queue = lit≤ tt })))))))))))

-- what the tile that is peeled finds
record RefusedThere (h : History) (stage : Stage) (t : Tables SumWord) : Type 0 where
  state : State
  is : stage ≡ peeling state
  left : state.left ≡ 0
  answer : (finish sum_words (shape_of contradiction) state t).answer ≡ refused (refusal 15 1 1 0)
  tables : (finish sum_words (shape_of contradiction) state t).tables ≡ t
  stays : (finish sum_words (shape_of contradiction) state t).stage ≡ peeling state

refused_there : RefusedThere peeled_out.calls peeled_out.stage peeled_out.tables
unfolding peeled_out place_at bin_at peel_one take_on settle_on finish_on sealed birth same load_on seal_on load seal take settle finish short short_sums short_queue fits with_place written peel_seal queue_singles append appended one_waits queue_with zeroed filled number tally least whole_at lies_at front take_answers taken spent one_found first_left_over finish_answers lowered take_off placed open_in take_off_all find peeled since_seal out
refused_there = record { state = _; is = refl; left = refl; answer = refl; tables = refl; stays = refl }

is_contradicted : IsContradicted
is_contradicted =
    let x = refused_there in
    let peeled-life = subst (λ st. Life sum_words contradiction peeled_out.calls st peeled_out.tables) x.is peeled_out.life in
    record {
      calls = peeled_out.calls;
      state = x.state;
      tables = (finish sum_words (shape_of contradiction) x.state peeled_out.tables).tables;
      life = subst (λ st. Life sum_words contradiction (event finishes (refused (refusal 15 1 1 0)) ∷ peeled_out.calls) st (finish sum_words (shape_of contradiction) x.state peeled_out.tables).tables) x.stays
          (subst (λ a. Life sum_words contradiction (event finishes a ∷ peeled_out.calls) (finish sum_words (shape_of contradiction) x.state peeled_out.tables).stage (finish sum_words (shape_of contradiction) x.state peeled_out.tables).tables) x.answer
          (then peeled-life finish_does tt));
      found = x.left;
    }

-- The tile that is refused ----------------------------------------------------------------------------------------

is_refused : IsRefused
unfolding load seal short short_sums fits with_place written ghosted filled
is_refused = record {
  calls = _;
  tables = _;
  life = then (then (born {t = anything} lawful_diagonal
      (record { picture = lit≤ tt; marks = lit≤ tt; sums = lit≤ tt; counts = lit≤ tt; queue = lit≤ tt })) load_does tt) seal_does tt;
  shows = refl;
}

pub worked : Worked
worked = record { ends = ends; is_refused = is_refused }

pub worked_further : WorkedFurther
worked_further = record { gives_back = gives_back; is_contradicted = is_contradicted }
