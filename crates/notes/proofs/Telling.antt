-- What notes tell, and what is left of one when a pixel is taken off.
use Rattle.std.proofs.Common.{◌≡◌, ℕ, zero, suc, ◌-◌, ◌<◌, ◌≤◌, Bool, true, false, cond, not, ◌&&◌, eqb, List, length, get_or, set, Some, None, refl, sym, ap, ◌∙◌, subst, ⊎_elim, arith}
use Rattle.std.proofs.lemmas.Bool.{cases_eq, cases_lt, cond-true, cond-false, eq-eqb, ne_eqb}
use Rattle.std.proofs.lemmas.List.{get_or-set_same, get_or-set_other, length-set, ext_get_or}
use Rattle.std.proofs.Math.Nat.{mod-lt}
use Rattle.std.proofs.lemmas.Nat.{div-add-mod'}
use Rattle.samples.proofs.Sums.{sum_same}
use Rattle.mojette.specs.Bounds.{most_side}
use Rattle.mojette.specs.Meaning.{Shape, pixels_of, bins_of}
use Rattle.katz.proofs.Pixels.{row_below}
use Rattle.peeling.specs.Counting.{one_if, tally, number, least}
use Rattle.peeling.specs.Steps.{filled}
use Rattle.peeling.proofs.Counts.{number_some, least_some, least_passes}
use Rattle.peeling.proofs.Loops.{length-filled, get_or-filled}
use Rattle.peeling.proofs.Sums.{sum_more}
use Rattle.law.specs.Positions.{incidence}
use Rattle.plan.specs.declared.plan.Plan.{Plan}
use Rattle.plan.specs.Shapes.{shape}
use Rattle.walk.specs.Counts.{counted}
use Rattle.walk.specs.Finding.{pixel_in, alone, missing_at, lone, OfTile}
use Rattle.walk.proofs.Finding.{lone_there}
use Rattle.walk.proofs.Fewness.{few_pixels as few_in_bin}
use Rattle.notes.specs.declared.note.Note.{Note}
use Rattle.notes.specs.Missing.{Missing, all_missing, by_marks, found_in, one_less}
use Rattle.notes.specs.Words.{note_plus, note_inverse, note_zero, note_laws}
use Rattle.notes.specs.Notes.{notes, note_of_cell, pixels_noted, cell_noted, note_of_those, Noted, counts_told}
use Rattle.notes.proofs.Counted.{pixels_less, pixels_of_cell, cell_of_cell, pixels_sum, sum_alone}
use Rattle.notes.proofs.Most.{few_pixels}

-- Tables that are filled ------------------------------------------------------------------------------------------

pub filled_same : {X : Type 0} (n : ℕ) (f g : ℕ → X) (xs : List X) → ((b : ℕ) → b < n → f b ≡ g b) → filled n f xs ≡ filled n g xs
unfolding filled
filled_same zero f g xs same = refl
filled_same (suc n) f g xs same = λ i. set (filled_same n f g xs (λ b l. same b (omega arith)) i) n (same n (omega arith) i)

filled_beyond : (n : ℕ) (f : ℕ → ℕ) (xs : List ℕ) (i : ℕ) → n ≤ i → get_or (filled n f xs) i 0 ≡ get_or xs i 0
unfolding filled
filled_beyond zero f xs i l = refl
filled_beyond (suc n) f xs i l = get_or-set_other (filled n f xs) n i (f n) 0 (omega arith) ∙ filled_beyond n f xs i (omega arith)

-- filled with one other value
pub filled_change : (n : ℕ) (f g : ℕ → ℕ) (xs : List ℕ) (at v : ℕ) → n ≤ length xs → at < n → g at ≡ v → ((b : ℕ) → b < n → (b ≡ at → ⊥) → g b ≡ f b) →
    filled n g xs ≡ set (filled n f xs) at v
filled_change n f g xs at v long l here other =
    ext_get_or 0 (filled n g xs) (set (filled n f xs) at v) (length-filled n g xs ∙ sym (length-set (filled n f xs) at v ∙ length-filled n f xs))
    (λ i h. ⊎_elim
    (λ (is : i ≡ at).
    get_or-filled n g xs 0 i long (omega arith) ∙ ap g is ∙ here ∙ sym (ap (λ k. get_or (set (filled n f xs) at v) k 0) is ∙ get_or-set_same (filled n f xs) at v 0 (omega (arith, length-filled n f xs))))
    (λ (not-it : i ≡ at → ⊥). ⊎_elim
    (λ (below : i < n). get_or-filled n g xs 0 i long below ∙ other i below not-it ∙ sym (get_or-set_other (filled n f xs) at i v 0 not-it ∙ get_or-filled n f xs 0 i long below))
    (λ (beyond : n ≤ i). filled_beyond n g xs i beyond ∙ sym (get_or-set_other (filled n f xs) at i v 0 not-it ∙ filled_beyond n f xs i beyond))
    (cases_lt i n))
    (cases_eq i at))

-- One bin ---------------------------------------------------------------------------------------------------------

-- part of them are no more
number_part : (n : ℕ) (p q : ℕ → Bool) → number n (λ c. p c && q c) ≤ number n p
unfolding number tally
number_part zero p q = omega arith
number_part (suc n) p q = let before = number_part n p q in let here = one_part (p n) (q n) in omega arith
  where
    one_part : (x y : Bool) → one_if (x && y) ≤ one_if x
    one_part true true = omega arith
    one_part true false = omega arith
    one_part false y = omega arith

-- the pixel in a cell of a tile
in_tile : (plan : Plan) (c : ℕ) → c < pixels_of (shape plan) → OfTile (shape plan).P (shape plan).Q (pixel_in (shape plan).P c)
in_tile plan c l =
    record {
      column = mod-lt c (plan.size.some_columns);
      row = row_below plan.size.columns plan.size.rows c l;
      cell = sym (div-add-mod' c plan.size.columns);
    }

module _ (plan : Plan) where
  abbrev s : Shape
  s = shape plan

  -- a note tells how many they are
  pub number_told : (test : ℕ → Bool) → pixels_noted (note_of_those s test) ≡ number (pixels_of s) test
  number_told test = pixels_sum (pixels_of s) test (few_pixels plan)

  pub told : (xs : List Note) (counts : List ℕ) → bins_of (shape plan) ≤ length counts → (at : ℕ) → at < bins_of (shape plan) →
      get_or (counts_told (shape plan) xs counts) at 0 ≡ pixels_noted (get_or xs at note_zero)
  told xs counts long at l = get_or-filled (bins_of s) _ counts 0 at long l

  module _ (m : Missing) (xs : List Note) (known : Noted (shape plan) m xs) (counts : List ℕ) (long : bins_of (shape plan) ≤ length counts) (at : ℕ) (l : at < bins_of (shape plan)) where
    pub told_number : pixels_noted (get_or xs at note_zero) ≡ number (pixels_of (shape plan)) (m at)
    told_number = ap pixels_noted (known at l) ∙ number_told (m at)

    -- the pixel in a cell is taken off
    module _ (room : bins_of (shape plan) ≤ length xs) (cell : ℕ) (k : cell < pixels_of (shape plan)) (on : m at cell ≡ true) where
      abbrev left : Note
      left = note_plus (get_or xs at note_zero) (note_inverse (note_of_cell cell))

      some : 1 ≤ pixels_noted (get_or xs at note_zero)
      some = omega (arith, told_number, number_some (pixels_of s) (m at) cell k on)

      less : pixels_noted left ≡ pixels_noted (get_or xs at note_zero) - 1
      less = pixels_less (get_or xs at note_zero) (note_of_cell cell) _ refl some (pixels_of_cell cell)

      less_told : pixels_noted left ≡ get_or (counts_told (shape plan) xs counts) at 0 - 1
      less_told = less ∙ ap (λ n. n - 1) (sym (told xs counts long at l))

      pub one_left : eqb (pixels_noted (note_plus (get_or xs at note_zero) (note_inverse (note_of_cell cell)))) 1 ≡ eqb (get_or (counts_told (shape plan) xs counts) at 0 - 1) 1
      one_left = ap (λ n. eqb n 1) less_told

      pub counts_left : counts_told (shape plan) (set xs at (note_plus (get_or xs at note_zero) (note_inverse (note_of_cell cell)))) counts ≡ one_less at (counts_told (shape plan) xs counts)
      counts_left = filled_change (bins_of s) _ _ counts at _ long l
          (ap pixels_noted (get_or-set_same xs at left note_zero (omega arith)) ∙ less_told)
          (λ b h ne. ap pixels_noted (get_or-set_other xs at b left note_zero ne))

      abbrev others-note : Note
      others-note = note_of_those s (found_in at cell m at)

      -- what is left is the note of the others
      left_is : left ≡ note_of_those s (found_in at cell m at)
      left_is =
          ap (λ x. note_plus x (note_inverse (note_of_cell cell))) (known at l ∙ sum_more notes (pixels_of s) _ _ cell (note_of_cell cell) k
          (λ c h ne. ap (λ t. cond t (note_of_cell c) note_zero) (sym (others c ne)))
          (ap (λ t. cond t (note_of_cell cell) note_zero) gone)
          (ap (λ t. cond t (note_of_cell cell) note_zero) on))
          ∙ note_laws.assoc others-note (note_of_cell cell) (note_inverse (note_of_cell cell)) ∙ ap (note_plus others-note) (note_laws.cancel (note_of_cell cell)) ∙ note_laws.neutral others-note
        where
          others : (c : ℕ) → (c ≡ cell → ⊥) → found_in at cell m at c ≡ m at c
          others c ne = go (m at c) (eqb at at) (eqb c cell) (ne_eqb c cell ne)
            where
              go : (x y z : Bool) → z ≡ false → (x && not (y && z)) ≡ x
              go x y z e = ap (λ t. x && not (y && t)) e ∙ last x y
                where
                  last : (x y : Bool) → (x && not (y && false)) ≡ x
                  last true true = refl
                  last true false = refl
                  last false y = refl

          gone : found_in at cell m at cell ≡ false
          gone = (λ i. m at cell && not (eq-eqb at at refl i && eq-eqb cell cell refl i)) ∙ never (m at cell)
            where
              never : (x : Bool) → (x && false) ≡ false
              never true = refl
              never false = refl

      pub noted_left : Noted (shape plan) (found_in at cell m) (set xs at (note_plus (get_or xs at note_zero) (note_inverse (note_of_cell cell))))
      noted_left b h = ⊎_elim
          (λ (is : b ≡ at).
          ap (λ n. get_or (set xs at left) n note_zero) is ∙ get_or-set_same xs at left note_zero (omega arith) ∙ left_is
          ∙ ap (λ n. note_of_those s (found_in at cell m n)) (sym is))
          (λ (ne : b ≡ at → ⊥).
          get_or-set_other xs at b left note_zero ne ∙ known b h
          ∙ sum_same notes (pixels_of s) _ _ (λ c k. ap (λ t. cond t (note_of_cell c) note_zero) (sym (same c ne))))
          (cases_eq b at)
        where
          keeps : (x z : Bool) → (x && not (false && z)) ≡ x
          keeps true z = refl
          keeps false z = refl

          same : (c : ℕ) → (b ≡ at → ⊥) → found_in at cell m b c ≡ m b c
          same c ne = ap (λ t. m b c && not (t && eqb c cell)) (ne_eqb b at ne) ∙ keeps (m b c) (eqb c cell)

  -- The last pixel --------------------------------------------------------------------------------------------------
  module _ (marks : List ℕ) (xs : List Note) (known : Noted (shape plan) (by_marks (shape plan) marks) xs) (at : ℕ) (l : at < bins_of (shape plan)) (long : pixels_of (shape plan) ≤ length marks) where
    its_number : pixels_noted (get_or xs at note_zero) ≡ number (pixels_of s) (missing_at s marks at)
    its_number = ap pixels_noted (known at l) ∙ number_told (missing_at s marks at)

    lone_is : alone s.P s.Q (missing_at s marks at) ≡ lone s marks at
    lone_is = lone_there s at marks l long

    pub none_lone : (pixels_noted (get_or xs at note_zero) ≡ 1 → ⊥) → None ≡ lone (shape plan) marks at
    none_lone none = sym (cond-false _ _ _ (ne_eqb _ 1 (λ e. none (its_number ∙ e)))) ∙ lone_is

    module _ (one : pixels_noted (get_or xs at note_zero) ≡ 1) where
      test : ℕ → Bool
      test = missing_at s marks at

      one_passes : number (pixels_of s) (missing_at s marks at) ≡ 1
      one_passes = sym its_number ∙ one

      first : least (pixels_of s) (missing_at s marks at) < pixels_of s
      first = least_some (pixels_of s) (missing_at s marks at) (omega (arith, one_passes))

      cell_is : cell_noted (get_or xs at note_zero) ≡ least (pixels_of s) (missing_at s marks at)
      cell_is =
          ap cell_noted (known at l ∙ sum_alone (pixels_of s) (missing_at s marks at) _ first (least_passes (pixels_of s) (missing_at s marks at) first) (omega (arith, one_passes)))
          ∙ cell_of_cell _ (omega (arith, first, few_pixels plan))

      pub cell_inside : cell_noted (get_or xs at note_zero) < pixels_of (shape plan)
      cell_inside = omega (arith, cell_is, first)

      pub lone_told : (P cell : ℕ) → P ≡ (shape plan).P → cell ≡ cell_noted (get_or xs at note_zero) → Some (pixel_in P cell) ≡ lone (shape plan) marks at
      lone_told P cell P_is is =
          (λ i. Some (pixel_in (P_is i) ((is ∙ cell_is) i))) ∙ sym (cond-true _ _ _ (eq-eqb _ 1 one_passes)) ∙ lone_is

      pub of_tile : (P cell : ℕ) → P ≡ (shape plan).P → cell ≡ cell_noted (get_or xs at note_zero) → OfTile (shape plan).P (shape plan).Q (pixel_in P cell)
      of_tile P cell P_is is = subst (λ n. OfTile s.P s.Q (pixel_in n cell)) (sym P_is) (subst (λ n. OfTile s.P s.Q (pixel_in s.P n)) (sym is) (in_tile plan (cell_noted (get_or xs at note_zero)) cell_inside))

  -- All bins --------------------------------------------------------------------------------------------------------
  pub all_told : (xs : List Note) → Noted (shape plan) (all_missing (shape plan)) xs → (counts : List ℕ) → counts_told (shape plan) xs counts ≡ counted (shape plan) counts
  all_told xs known counts = filled_same (bins_of s) _ _ counts (λ b l. ap pixels_noted (known b l) ∙ number_told (λ c. (incidence s).lies c b))

  pub few_told : (marks : List ℕ) (xs : List Note) → Noted (shape plan) (by_marks (shape plan) marks) xs → (b : ℕ) → b < bins_of (shape plan) → pixels_noted (get_or xs b note_zero) ≤ most_side
  few_told marks xs known b l =
      omega (arith, ap pixels_noted (known b l), number_told (missing_at s marks b), number_part (pixels_of s) (λ c. (incidence s).lies c b) (λ c. eqb (get_or marks c 0) 0), few_in_bin plan b l)
