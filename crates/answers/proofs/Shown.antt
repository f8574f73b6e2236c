-- What is listed is right: by what rebuilding promises.
use Rattle.std.proofs.Common.{◌≡◌, ℕ, ◌≤◌, Some, None, sym, ap, ◌∙◌, subst, arith}
use Rattle.std.proofs.lemmas.List.{length-replicate}
use Rattle.samples.specs.declared.coded.Coded.{Ghosts as Codes}
use Rattle.samples.specs.declared.kind.Kind.{Ghosts as Operations}
use Rattle.mojette.specs.Meaning.{Meaning, Lawful, shape_of, pixels_of, bins_of}
use Rattle.mojette.specs.Refusals.{Refusal}
use Rattle.law.specs.Law.{shown}
use Rattle.law.specs.Life.{LongEnough}
use Rattle.law.specs.Steps.{Tables, short}
use Rattle.law.proofs.Sealing.{none_short}
use Rattle.runs.specs.Rebuilding.{Answer, Ready, Rebuilds, unlawful, too_short, ghosted, contradicted, rebuilt}
use Rattle.runs.specs.Worker.{one_worker}
use Rattle.answers.specs.Tiles.{program_bins, clear_tables, answered}
use Rattle.answers.specs.Answers.{listed, listing_of}
use Rattle.answers.specs.Law.{Shows}
use Rattle.answers.specs.Law as prints
use Rattle.answers.proofs.Listings.{listed_by}

module _ {S : Type 0} (K : Operations S) (C : Codes S) (m : Meaning S) (lawful : Lawful (shape_of m)) (pixels : pixels_of (shape_of m) ≤ 4096) (bins : bins_of (shape_of m) ≤ program_bins) where
  -- the clear tables are long enough
  roomy : LongEnough (shape_of m) (clear_tables K)
  roomy = record {
    picture = let e = length-replicate 4096 K.zero in omega (arith, pixels, e);
    marks = let e = length-replicate {A = ℕ} 4096 0 in omega (arith, pixels, e);
    sums = let e = length-replicate 8192 K.zero in omega (arith, bins, e);
    counts = let e = length-replicate {A = ℕ} 8192 0 in omega (arith, bins, e);
    queue = let e = length-replicate {A = ℕ} 8192 0 in omega (arith, bins, e);
  }

  pub ready : (before : Tables S) → before ≡ clear_tables K → Ready K m before
  ready before clear = record { lawful = lawful; long = subst (LongEnough (shape_of m)) (sym clear) roomy }

  never : (r : Refusal) → None ≡ Some r → ⊥
  never r e = cc

  by_promise : (a : Answer) (t before : Tables S) → before ≡ clear_tables K → Rebuilds K m before a t → Shows K C m (listing_of K C m a t)
  by_promise a t before clear (unlawful {r} e) = absurd (never r (sym lawful ∙ e))
  by_promise a t before clear (too_short {k} l e) =
      let none : short (shape_of m) before ≡ 0 = ap (short (shape_of m)) clear ∙ none_short (shape_of m) (clear_tables K) roomy in
      absurd (omega (arith, e, none))
  by_promise a t before clear (ghosted ready fails lived ghost) = prints.ghosted (shown K m t) bins fails ghost
  by_promise a t before clear (contradicted {i = i} {b = b} ready holds lived e none) = prints.contradicted i b bins holds none
  by_promise a t before clear (rebuilt ready holds lived agrees only) = prints.rebuilt (shown K m t) bins holds agrees only

  pub shows : (a : Answer) (t before : Tables S) → before ≡ clear_tables K → Rebuilds K m before a t → (a, t) ≡ one_worker K m before →
      Shows K C m (listed K C m (answered K m))
  shows a t before clear run steps = subst (Shows K C m) (listed_by K C m a t before steps clear) (by_promise a t before clear run)
