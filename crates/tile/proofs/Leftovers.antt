-- The first sum left over, and the outcome of a finish.
use Rattle.std.proofs.Common.{◌≡◌, ℕ, ◌<◌, Bool, true, false, not, List, length, get_or, sym, ap, ◌∙◌, arith}
use Rattle.std.proofs.lemmas.List.{get_or_read}
use Rattle.samples.specs.declared.kind.Kind.{Ghosts as Operations}
use Rattle.mojette.specs.Meaning.{bins_of}
use Rattle.peeling.specs.Steps.{first_left_over}
use Rattle.peeling.proofs.Bridges.{least_is, least_is_none}
use Rattle.plan.specs.declared.plan.Plan.{Plan}
use Rattle.plan.specs.Laid.{records_of}
use Rattle.plan.specs.Shapes.{places_of, shape}
use Rattle.law.specs.Positions.{place_at, bin_at}
use Rattle.walk.specs.Finding.{Stands}
use Rattle.walk.proofs.Laying.{place_is, bin_is, ends_inside}

module _ {S : Type 0} (K : Operations S) (sums : List S) where
  -- the sum at position x is not zero
  abbrev pub left_at : ℕ → Bool
  left_at x = not (K.equal (get_or sums x K.zero) K.zero)

  -- what the test of an element says, read at any default
  pub read_left : (x : ℕ) (v z : S) (t : Bool) → x < length sums → v ≡ get_or sums x v → z ≡ K.zero → t ≡ K.equal v z → left_at x ≡ not t
  read_left x v z t l e is test = let r = get_or_read sums x v l e K.zero in cc

  pub first_is : (T n : ℕ) → n < T → left_at n ≡ true → ((x : ℕ) → x < n → left_at x ≡ false) → first_left_over K T sums ≡ n
  unfolding first_left_over
  first_is T n l here before = least_is T left_at n l here before

  pub none_left : (T : ℕ) → ((x : ℕ) → x < T → left_at x ≡ false) → first_left_over K T sums ≡ T
  unfolding first_left_over
  none_left T none = least_is_none T left_at none

-- where the first sum left over stands
pub record At (plan : Plan) (x i b : ℕ) : Type 0 where
  pub place : i ≡ place_at plan.size.columns plan.size.rows (records_of (places_of plan)) x
  pub bin : b ≡ bin_at plan.size.columns plan.size.rows (records_of (places_of plan)) x
  pub inside : x < bins_of (shape plan)

pub stands_at : (plan : Plan) (x i b : ℕ) → Stands plan x i b → At plan x i b
stands_at plan x i b stands =
    let es = records_of (places_of plan) in
    record {
      place = sym (ap (place_at plan.size.columns plan.size.rows es) stands.position ∙ place_is plan i stands.known b stands.inside);
      bin = sym (ap (bin_at plan.size.columns plan.size.rows es) stands.position ∙ bin_is plan i stands.known b stands.inside);
      inside = omega (arith, stands.position, stands.inside, ends_inside plan i stands.known, plan.full);
    }
