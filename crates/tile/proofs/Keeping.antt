-- What is lent stays lent from one step to the next.
use Rattle.std.proofs.Common.{refl, ◌∙◌}
use Rattle.tile.specs.declared.lent.Tables.{Tables as Lent}
use Rattle.tile.specs.Worlds.{IsStillLent}

module _ {S : Type 0} where
  pub same_tables : (t : Lent S) → IsStillLent t t
  same_tables t = record {
    picture = refl;
    marks = refl;
    sums = refl;
    counts = refl;
    queue = refl;
    picture_size = refl;
    marks_size = refl;
    sums_size = refl;
    counts_size = refl;
    queue_size = refl;
  }

  pub lent_on : {a b c : Lent S} → IsStillLent a b → IsStillLent b c → IsStillLent a c
  lent_on x y = record {
    picture = y.picture ∙ x.picture;
    marks = y.marks ∙ x.marks;
    sums = y.sums ∙ x.sums;
    counts = y.counts ∙ x.counts;
    queue = y.queue ∙ x.queue;
    picture_size = y.picture_size ∙ x.picture_size;
    marks_size = y.marks_size ∙ x.marks_size;
    sums_size = y.sums_size ∙ x.sums_size;
    counts_size = y.counts_size ∙ x.counts_size;
    queue_size = y.queue_size ∙ x.queue_size;
  }
