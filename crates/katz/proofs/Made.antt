-- The made ghost: it starts in a box with room for all the directions, and the spark stays.
use Rattle.std.proofs.Common.{◌≡◌, ℕ, zero, suc, ◌+◌, ◌*◌, ◌<◌, ◌≤◌, true, false, ◌&&◌, ◌⊎◌, List, [], ◌∷◌, get_or, ℤ, pos, negsuc, ◌-ℤ◌, nat_abs, ◌≤ℤ◌, ◌<ℤ◌, refl, ◌∙◌, subst, inl, inr, arith}
use Rattle.std.specs.List.{AllByRecursion}
use Rattle.std.proofs.lemmas.List.FromFn.{length-map-range_with_len}
use Rattle.std.proofs.ByRecursion.{All-weaker}
use Rattle.std.proofs.lemmas.Int.{ints}
use Rattle.std.proofs.lemmas.Bool.{cases_Bool, cases_lt, and_parts, and_from, cond-true, cond-false}
use Rattle.samples.specs.declared.kind.Kind.{Ghosts as Operations}
use Rattle.mojette.specs.declared.direction.Direction.{Direction}
use Rattle.mojette.specs.Bins.{bins, raw_of}
use Rattle.mojette.specs.Directions.{equal, LawfulDirections, columns, rows}
use Rattle.mojette.specs.Transform.{bin_sum}
use Rattle.mojette.proofs.Equal.{equal_true, equal_same}
use Rattle.katz.specs.Made.{Picture, leftward, cell_of, minus, start, step, steps, made, ghost_tile, MakesAGhost, GhostIsMade}
use Rattle.katz.proofs.Boxes.{both_parts, Box, step_is, Room, room_fits, room_step}
use Rattle.katz.proofs.Lawful.{Lawful, each_lawful}
use Rattle.katz.proofs.Lines.{Empty, all_empty, tile_at, tile_sum}
use Rattle.katz.proofs.Pixels.{cell_below, at_cell}
use Rattle.katz.proofs.Sums.{minus_zero, minus_zeros}

down_is : (q : ℤ) → pos 0 ≤ℤ q → q ≡ pos (nat_abs q)
down_is (pos q) h = refl
down_is (negsuc q) h = absurd h.le

module _ {S : Type 0} (K : Operations S) where
  start_zero : (k₀ : ℕ) (k l : ℤ) → ¬ ((k ≡ pos k₀) × (l ≡ pos 0)) → start K k₀ k l ≡ K.zero
  start_zero k₀ k l ne = go (cases_Bool (equal k (pos k₀) && equal l (pos 0)))
    where
      go : (equal k (pos k₀) && equal l (pos 0) ≡ true) ⊎ (equal k (pos k₀) && equal l (pos 0) ≡ false) → start K k₀ k l ≡ K.zero
      go (inl t) = let e = and_parts (equal k (pos k₀)) (equal l (pos 0)) t in absurd (ne (equal_true k (pos k₀) e.0, equal_true l (pos 0) e.1))
      go (inr t) = cond-false _ K.spark K.zero t

  start_spark : (k₀ : ℕ) → start K k₀ (pos k₀) (pos 0) ≡ K.spark
  start_spark k₀ = cond-true _ K.spark K.zero (and_from _ _ (equal_same (pos k₀)) (equal_same (pos 0)))

  start_box : (k₀ : ℕ) → Box K (start K k₀) k₀ k₀ 0
  start_box k₀ =
      record {
        before = λ k l h. start_zero k₀ k l (λ e. let e₁ = e.0 in omega (arith, ints));
        after = λ k l h. start_zero k₀ k l (λ e. let e₁ = e.0 in omega (arith, ints));
        above = λ k l h. start_zero k₀ k l (λ e. let e₁ = e.1 in omega (arith, ints));
        beneath = λ k l h. start_zero k₀ k l (λ e. let e₁ = e.1 in omega (arith, ints));
      }

  start_room : (P Q : ℕ) (ds : List Direction) → AllByRecursion Lawful ds → columns ds < P → rows ds < Q → Room K P Q ds (start K (leftward ds))
  start_room P Q ds laws h h' =
      record {
        first = leftward ds;
        last = leftward ds;
        low = 0;
        box = start_box (leftward ds);
        in_order = omega arith;
        at_left = omega arith;
        at_right = omega (arith, both_parts ds);
        at_bottom = omega arith;
        downward = All-weaker Lawful (λ d. d.q ≡ pos (nat_abs d.q)) (λ d law. down_is d.q law.down) ds laws;
      }

  -- the spark at (k₀, 0), and nothing to the left of it in its row
  record Lit (k₀ : ℕ) (f : Picture S) : Type 0 where
    here : f (pos k₀) (pos 0) ≡ K.spark
    dark : (k : ℤ) → k <ℤ pos k₀ → f k (pos 0) ≡ K.zero

  start_lit : (k₀ : ℕ) → Lit k₀ (start K k₀)
  start_lit k₀ = record { here = start_spark k₀; dark = λ k h. (start_box k₀).before k (pos 0) h }

  module _ (k₀ : ℕ) (f : Picture S) (first last low : ℕ) (box : Box K f first last low) (lit : Lit k₀ f) where
    -- What a step reads for this part of the row lies above the tile or, along (1, 0), to the left.
    nothing_read :
        (p q : ℤ) → pos 0 ≤ℤ q → (q ≡ pos 0 → p ≡ pos 1) → (k : ℤ) → k ≤ℤ pos k₀ → f (k -ℤ p) (pos 0 -ℤ q) ≡ K.zero
    nothing_read p (pos zero) down level k h = let e = level refl in lit.dark (k -ℤ p) (omega (arith, ints))
    nothing_read p (pos (suc q)) down level k h = box.above (k -ℤ p) (pos 0 -ℤ pos (suc q)) (omega (arith, ints))
    nothing_read p (negsuc q) down level k h = absurd down.le

  lit_step : (P Q k₀ : ℕ) (d : Direction) (ds : List Direction) (f : Picture S) → Lawful d → Room K P Q (d ∷ ds) f → Lit k₀ f → Lit k₀ (step K P Q d f)
  lit_step P Q k₀ d ds f law room lit =
      record {
        here = new (pos k₀) ∙ minus_zero K _ _ (read (pos k₀) (omega (arith, ints))) ∙ lit.here;
        dark = λ k h. new k ∙ minus_zeros K _ _ (lit.dark k h) (read k (omega (arith, ints)));
      }
    where
      new : (k : ℤ) → step K P Q d f k (pos 0) ≡ minus K (f k (pos 0)) (f (k -ℤ d.p) (pos 0 -ℤ d.q))
      new k = step_is K P Q d f room.first room.last room.low (room_fits K P Q d ds f room) room.box k (pos 0)

      read : (k : ℤ) → k ≤ℤ pos k₀ → f (k -ℤ d.p) (pos 0 -ℤ d.q) ≡ K.zero
      read = nothing_read k₀ f room.first room.last room.low room.box lit d.p d.q law.down law.level

  lit_steps : (P Q k₀ : ℕ) (ds : List Direction) (f : Picture S) → AllByRecursion Lawful ds → Room K P Q ds f → Lit k₀ f → Lit k₀ (steps K P Q ds f)
  lit_steps P Q k₀ [] f laws room lit = lit
  lit_steps P Q k₀ (d ∷ ds) f laws room lit =
      lit_steps P Q k₀ ds (step K P Q d f) laws.1 (room_step K P Q d ds f room) (lit_step P Q k₀ d ds f laws.0 room lit)

  pub made_ghost : (P Q : ℕ) (ds : List Direction) → LawfulDirections ds → columns ds < P → rows ds < Q → MakesAGhost K P Q ds
  made_ghost P Q ds laws h h' =
      record {
        ghost =
            record {
              size = length-map-range_with_len _ 0 (P * Q);
              vanishes =
                  All-weaker (Empty K P Q f) (λ d. (b : ℕ) → b < bins P Q d → bin_sum K P Q (ghost_tile K P Q ds) d b ≡ K.zero)
                  (λ d empty b _. tile_sum K P Q f d (raw_of P Q d b) ∙ empty (raw_of P Q d b)) ds (all_empty K P Q ds (start K k₀) room);
              nonzero = (k₀, inside, λ e. let s = spark in K.laws.apart (cc));
            };
        spark_stays = spark;
      }
    where
      each : AllByRecursion Lawful ds
      each = each_lawful ds laws.each

      room : Room K P Q ds (start K (leftward ds))
      room = start_room P Q ds each h h'

      k₀ : ℕ
      k₀ = leftward ds

      f : Picture S
      f = made K P Q ds

      k₀_below : k₀ < P
      k₀_below = omega (arith, both_parts ds)

      same_cell : 0 * P + k₀ ≡ k₀
      same_cell = omega arith

      inside : k₀ < P * Q
      inside = subst (λ (c : ℕ). c < P * Q) same_cell (cell_below P Q k₀ 0 k₀_below (omega arith))

      at_k₀ : cell_of P f k₀ ≡ f (pos k₀) (pos 0)
      at_k₀ =
          subst (λ (c : ℕ). cell_of P f c ≡ f (pos k₀) (pos 0)) same_cell
          (at_cell P Q (λ k l. f (pos k) (pos l) ≡ f (pos k₀) (pos 0)) k₀ 0 k₀_below refl)

      spark : get_or (ghost_tile K P Q ds) k₀ K.zero ≡ K.spark
      spark = tile_at K P Q f k₀ inside ∙ at_k₀ ∙ (lit_steps P Q k₀ ds (start K k₀) each room (start_lit k₀)).here

  pub ghost_is_made : GhostIsMade K
  ghost_is_made P Q ds laws fails = go (cases_lt (columns ds) P) (cases_lt (rows ds) Q)
    where
      go : (columns ds < P) ⊎ (P ≤ columns ds) → (rows ds < Q) ⊎ (Q ≤ rows ds) → MakesAGhost K P Q ds
      go (inl h) (inl h') = made_ghost P Q ds laws h h'
      go (inr h) b = absurd (fails (inl h))
      go (inl h) (inr h') = absurd (fails (inr h'))
