-- The pixel that is found, as the contracts say it.
use Rattle.std.proofs.Common.{◌≡◌, ℕ, ◌*◌, ◌<◌, ◌≤◌, Bool, true, false, cond, ◌&&◌, eqb, List, length, get_or, Some, None, Option, sym, ap, ◌∙◌, arith}
use Rattle.std.proofs.lemmas.Bool.{cond-true, cond-false, and_from, ne_eqb, lt-ltb, le-ltb, le-leb}
use Rattle.mojette.specs.Bins.{in_bin, whole}
use Rattle.mojette.specs.Meaning.{Shape, pixels_of, bins_of}
use Rattle.peeling.specs.Counting.{number}
use Rattle.peeling.proofs.Counts.{number_same, number_zero, least_same}
use Rattle.law.specs.Positions.{incidence, place_at, bin_at}
use Rattle.plan.specs.declared.places.Place.{Place}
use Rattle.plan.specs.declared.plan.Plan.{Plan}
use Rattle.plan.specs.Laid.{direction_of, record_of}
use Rattle.plan.specs.Laid.{place_at as nth}
use Rattle.plan.specs.Shapes.{shape, places_of}
use Rattle.walk.specs.declared.pixel.Pixel.{Pixel}
use Rattle.walk.specs.Finding.{standing, Stands, pixel_in, alone, missing_at, lone}
use Rattle.walk.proofs.Laying.{ends_inside, lies_is}

-- The pixel that alone passes a test ------------------------------------------------------------------------------

module _ (P Q : ℕ) where
  none_alone : (test : ℕ → Bool) → (number (P * Q) test ≡ 1 → ⊥) → None ≡ alone P Q test
  none_alone test none = sym (cond-false _ _ _ (ne_eqb _ 1 none))

  alone_same : (p q : ℕ → Bool) → ((c : ℕ) → c < P * Q → p c ≡ q c) → alone P Q p ≡ alone P Q q
  alone_same p q same =
      λ i. cond (eqb (number_same (P * Q) p q same i) 1) (Some (pixel_in P (least_same (P * Q) p q same i))) None

-- At a position ---------------------------------------------------------------------------------------------------

module _ (s : Shape) (x : ℕ) where
  pub stands_nowhere : bins_of s ≤ x → None ≡ standing s x
  stands_nowhere l = sym (cond-false _ _ _ (le-ltb x (bins_of s) l))

  pub stands_there : (i b : ℕ) → x < bins_of s → place_at s.P s.Q s.records x ≡ i → bin_at s.P s.Q s.records x ≡ b → Some (i, b) ≡ standing s x
  stands_there i b l e f = (λ j. Some (sym e j, sym f j)) ∙ sym (cond-true _ _ _ (lt-ltb x (bins_of s) l))

  module _ (marks : List ℕ) where
    pub lone_there : x < bins_of s → pixels_of s ≤ length marks → alone s.P s.Q (missing_at s marks x) ≡ lone s marks x
    lone_there l l' = sym (cond-true _ _ _ (and_from _ _ (lt-ltb x (bins_of s) l) (le-leb (pixels_of s) (length marks) l')))

    -- no pixel lies there
    lone_lost : ((c : ℕ) → (incidence s).lies c x ≡ false) → None ≡ alone s.P s.Q (missing_at s marks x)
    lone_lost none =
        none_alone s.P s.Q (missing_at s marks x)
        (λ one. let z = number_zero (pixels_of s) (missing_at s marks x) (λ c l. ap (λ t. t && eqb (get_or marks c 0) 0) (none c)) in omega arith)

-- By place and bin ------------------------------------------------------------------------------------------------

module _ (plan : Plan) (marks : List ℕ) (at i b : ℕ) (t : Stands plan at i b) (long : pixels_of (shape plan) ≤ length marks) where
  abbrev own : Place
  own = nth (places_of plan) i

  there : lone (shape plan) marks at ≡ alone plan.size.columns plan.size.rows (missing_at (shape plan) marks at)
  there = sym (lone_there (shape plan) at marks (omega (arith, t.position, t.inside, ends_inside plan i t.known, plan.full)) long)

  lies : (c : ℕ) → (incidence (shape plan)).lies c at ≡ (whole (record_of own) && in_bin plan.size.columns plan.size.rows (direction_of own) c b)
  lies c = ap ((incidence (shape plan)).lies c) t.position ∙ lies_is plan i t.known b t.inside c

  -- what the code holds of the place
  module _ (x : Place) (place : x ≡ own) where
    pub lone_in_whole :
        (P Q : ℕ) (r : Option Pixel) → P ≡ plan.size.columns → Q ≡ plan.size.rows → whole (record_of x) ≡ true
        → r ≡ alone P Q (λ c. in_bin P Q (direction_of x) c b && eqb (get_or marks c 0) 0) → r ≡ lone (shape plan) marks at
    lone_in_whole P Q r columns rows e is =
        is ∙ (λ j. alone (columns j) (rows j) (λ c. in_bin (columns j) (rows j) (direction_of (place j)) c b && eqb (get_or marks c 0) 0))
        ∙ sym (there ∙ alone_same plan.size.columns plan.size.rows _ _ (λ c l.
        ap (λ t. t && eqb (get_or marks c 0) 0)
        (lies c ∙ ap (λ t. t && in_bin plan.size.columns plan.size.rows (direction_of own) c b) (sym (ap (λ z. whole (record_of z)) place) ∙ e))))

    pub none_in_lost : whole (record_of x) ≡ false → None ≡ lone (shape plan) marks at
    none_in_lost e =
        lone_lost (shape plan) at marks (λ c.
        lies c ∙ ap (λ t. t && in_bin plan.size.columns plan.size.rows (direction_of own) c b) (sym (ap (λ z. whole (record_of z)) place) ∙ e))
        ∙ sym there
