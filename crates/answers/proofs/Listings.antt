-- From what rebuilding answers to what is listed.
use Rattle.std.proofs.Common.{◌≡◌, ℕ, ◌*◌, ◌<◌, ◌≤◌, false, List, [], Some, None, take, length, sym, refl, ap, ◌∙◌, subst, ltb, eqb, arith}
use Rattle.std.proofs.lemmas.Bool.{cond-true, cond-false, le-ltb, lt-ltb}
use Rattle.std.proofs.lemmas.List.{length-take-le}
use Rattle.std.proofs.lemmas.Nat.{mul-le}
use Rattle.samples.specs.declared.coded.Coded.{Ghosts as Codes}
use Rattle.samples.specs.declared.kind.Kind.{Ghosts as Operations}
use Rattle.mojette.specs.declared.fault.Fault.{Fault}
use Rattle.mojette.specs.declared.fault.Fault.TheVariants as faults
use Rattle.mojette.specs.Faults.{refusal_of, Outcome}
use Rattle.mojette.specs.Meaning.{Shape, Meaning, shape_of, pixels_of, bins_of, verdict}
use Rattle.mojette.specs.Refusals.{Refusal, oversize}
use Rattle.format.specs.Listing.{picture_text, ghost_text, refusal_text}
use Rattle.law.specs.Law.{shown}
use Rattle.law.specs.Steps.{Tables}
use Rattle.plan.specs.declared.plan.Plan.{Plan}
use Rattle.plan.specs.Shapes.{shape}
use Rattle.runs.specs.Rebuilding.{Answer, refuses}
use Rattle.runs.specs.Worker.{one_worker}
use Rattle.writing.specs.Splices.{filling, listing}
use Rattle.answers.specs.Tiles.{program_bins, clear_tables, answered}
use Rattle.answers.specs.Answers.{listed, listing_of, judged, tile_answer}

-- a tile has at most 4096 pixels
pixels_few : (P Q : ℕ) (s : Shape) → P ≤ 64 → Q ≤ 64 → P ≡ s.P → Q ≡ s.Q → pixels_of s ≤ 4096
pixels_few P Q s p q is-P is-Q = let l : s.P * s.Q ≤ 64 * 64 = mul-le s.P s.Q 64 64 (omega (arith, p, is-P)) (omega (arith, q, is-Q)) in omega (arith, l)

pub own_pixels_few : (plan : Plan) (s : Shape) → shape plan ≡ s → pixels_of s ≤ 4096
own_pixels_few plan s own =
    pixels_few plan.size.columns plan.size.rows s plan.size.few_columns plan.size.few_rows (ap (λ t. t.P) own) (ap (λ t. t.Q) own)

-- a picture with all its pixels is listed as any text is
whole : {S : Type 0} (P Q : ℕ) (picture : List S) (t out : List ℕ) → P * Q ≤ length picture → listing P Q picture t out ≡ filling t out
whole P Q picture t out l = cond-false (ltb (length picture) (P * Q)) _ _ (le-ltb (length picture) (P * Q) l)

module _ {S : Type 0} (K : Operations S) (C : Codes S) (s : Shape) (n : ℕ) (pixels : n ≡ pixels_of s) (picture : List S) (full : pixels_of s ≤ length picture) (out : List ℕ) where
  abbrev tile : List S
  tile = take (pixels_of s) picture

  tile_size : s.P * s.Q ≤ length tile
  tile_size = let e : length tile ≡ pixels_of s = length-take-le (pixels_of s) picture full in subst (λ k. s.P * s.Q ≤ k) (sym e) (omega arith)

  abbrev as_picture : ℕ → ℕ → ℕ → Outcome ℕ × List ℕ
  as_picture P Q k = listing P Q (take k picture) (picture_text K C (record { P = P; Q = Q; records = [] }) (take k picture)) out

  abbrev as_ghost : ℕ → Outcome ℕ × List ℕ
  as_ghost k = listing s.P s.Q (take k picture) (ghost_text K C s (take k picture)) out

  pub picture_fills : (P Q : ℕ) → P ≡ s.P → Q ≡ s.Q → as_picture P Q n ≡ filling (picture_text K C s tile) out
  picture_fills P Q p q =
      ap (λ x. as_picture x Q n) p ∙ ap (λ y. as_picture s.P y n) q ∙ ap (λ k. as_picture s.P s.Q k) pixels
      ∙ whole s.P s.Q tile (picture_text K C s tile) out tile_size

  pub ghost_fills : as_ghost n ≡ filling (ghost_text K C s tile) out
  ghost_fills = ap as_ghost pixels ∙ whole s.P s.Q tile (ghost_text K C s tile) out tile_size

-- a fault that is no ghost has another number
pub other_number : (f : Fault) → ((x y : ℕ) → f ≡ faults.Ghost x y → ⊥) → eqb (refusal_of f).number 9 ≡ false
other_number (faults.Ghost x y) never = absurd (never x y refl)
other_number f never = refl

module _ {S : Type 0} (K : Operations S) (C : Codes S) (m : Meaning S) where
  pub ghost_listed : (f : Fault) (x y : ℕ) (t : Tables S) → f ≡ faults.Ghost x y → ghost_text K C (shape_of m) (shown K m t) ≡ listing_of K C m (refuses (refusal_of f)) t
  ghost_listed f x y t is = ap (λ e. listing_of K C m (refuses (refusal_of e)) t) (sym is)

  -- what is listed of a refusal that is no ghost
  pub other_listed : (f : Fault) (t : Tables S) → ((x y : ℕ) → f ≡ faults.Ghost x y → ⊥) → refusal_text (refusal_of f) ≡ listing_of K C m (refuses (refusal_of f)) t
  other_listed f t other = sym (cond-false (eqb (refusal_of f).number 9) _ _ (other_number f other))

  pub listed_by : (a : Answer) (t before : Tables S) → (a, t) ≡ one_worker K m before → before ≡ clear_tables K → listing_of K C m a t ≡ listed K C m (answered K m)
  listed_by a t before e clear = ap (listed K C m) (e ∙ ap (one_worker K m) clear)

-- What is printed of a tile, by the verdict on its source.
module _ {S : Type 0} (K : Operations S) (C : Codes S) (m : Meaning S) where
  pub unlawful_answer : (r : Refusal) → verdict (shape_of m) ≡ Some r → refusal_text r ≡ tile_answer K C m
  unfolding tile_answer
  unlawful_answer r e = ap (judged K C m) (sym e)

  module _ (lawful : verdict (shape_of m) ≡ None) where
    pub oversize_answer : program_bins < bins_of (shape_of m) → refusal_text oversize ≡ tile_answer K C m
    unfolding tile_answer
    oversize_answer l = sym (ap (judged K C m) lawful ∙ cond-true (ltb program_bins (bins_of (shape_of m))) _ _ (lt-ltb program_bins (bins_of (shape_of m)) l))

    pub tile_listed : bins_of (shape_of m) ≤ program_bins → listed K C m (answered K m) ≡ tile_answer K C m
    unfolding tile_answer
    tile_listed l = sym (ap (judged K C m) lawful ∙ cond-false (ltb program_bins (bins_of (shape_of m))) _ _ (le-ltb program_bins (bins_of (shape_of m)) l))
