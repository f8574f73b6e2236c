-- Each fault is known by its refusal.
use Rattle.std.proofs.Common.{◌≡◌, ℕ, ◌<◌, ◌^◌, Bool, true, false, cond, eqb, ltb, Some, None, Option, refl, sym, ap, ◌∙◌, arith}
use Rattle.std.specs.Option.{option_map}
use Rattle.std.proofs.lemmas.Bool.{cond-true, and_parts, and_from, eq-eqb, eqb-true}
use Rattle.std.proofs.lemmas.Bool.Decides.{nat_tests}
use Rattle.mojette.specs.declared.fault.Fault.{Fault}
use Rattle.mojette.specs.declared.fault.Fault.TheVariants.{Size, PlaceCount, Unlawful, Disorder, ShortTable, AllLoaded, OtherSource, NotLoaded, Ghost, NoneWaits, BadCell, BadGrant, PixelsMissing, GrantsOut, LeftOver, NoPlace, Lost, NoBin, RunLength, NoFile, ShortOutput, Oversize}
use Rattle.mojette.specs.declared.fault.Reason.{Reason}
use Rattle.mojette.specs.declared.fault.Reason.TheVariants as reasons
use Rattle.mojette.specs.declared.fault.Table.{Table}
use Rattle.mojette.specs.declared.fault.Table.TheVariants.{Picture, Marks, Sums, Counts, Queue}
use Rattle.mojette.specs.Faults.{refusal_of}
use Rattle.mojette.specs.Refusals.{Refusal, refusal}
use Rattle.reports.specs.Faults.{below, file_fault, guessed, same, confirmed, fault_told, Fits, KnowsFaults}

same_self : (r : Refusal) → same r r ≡ true
same_self r =
    and_from _ _ (eq-eqb r.number r.number refl) (and_from _ _ (eq-eqb r.first r.first refl) (and_from _ _ (eq-eqb r.second r.second refl) (eq-eqb r.third r.third refl)))

same_equal : (r s : Refusal) → same r s ≡ true → r ≡ s
same_equal r s h =
    let a = and_parts (eqb r.number s.number) _ h in
    let b = and_parts (eqb r.first s.first) _ a.1 in
    let d = and_parts (eqb r.second s.second) _ b.1 in
    λ i. record {
      number = eqb-true r.number s.number a.0 i;
      first = eqb-true r.first s.first b.0 i;
      second = eqb-true r.second s.second d.0 i;
      third = eqb-true r.third s.third d.1 i;
    }

confirmed_self : (e : Fault) → confirmed (refusal_of e) (Some e) ≡ Some e
confirmed_self e = cond-true (same (refusal_of e) (refusal_of e)) (Some e) None (same_self (refusal_of e))

below_is : (bound n : ℕ) → n < bound → below bound n ≡ Some n
below_is bound n h = let e : ltb n bound ≡ true = grind (arith, nat_tests) in cond-true (ltb n bound) (Some n) None e

each_table : (t : Table) → fault_told (refusal_of (ShortTable t)) ≡ Some (ShortTable t)
each_table Picture = confirmed_self (ShortTable Picture)
each_table Marks = confirmed_self (ShortTable Marks)
each_table Sums = confirmed_self (ShortTable Sums)
each_table Counts = confirmed_self (ShortTable Counts)
each_table Queue = confirmed_self (ShortTable Queue)

each_file : (line byte : ℕ) (why : Reason) → fault_told (refusal_of (file_fault line byte why)) ≡ Some (file_fault line byte why)
each_file line byte reasons.Token = confirmed_self (file_fault line byte reasons.Token)
each_file line byte reasons.Size = confirmed_self (file_fault line byte reasons.Size)
each_file line byte reasons.Count = confirmed_self (file_fault line byte reasons.Count)
each_file line byte reasons.Direction = confirmed_self (file_fault line byte reasons.Direction)
each_file line byte reasons.Order = confirmed_self (file_fault line byte reasons.Order)

each : (e : Fault) → Fits e → fault_told (refusal_of e) ≡ Some e
each Size h = confirmed_self Size
each PlaceCount h = confirmed_self PlaceCount
each (Unlawful i) h = confirmed_self (Unlawful i)
each (Disorder i) h = confirmed_self (Disorder i)
each (ShortTable t) h = each_table t
each AllLoaded h = confirmed_self AllLoaded
each OtherSource h = confirmed_self OtherSource
each (NotLoaded n) h = confirmed_self (NotLoaded n)
each (Ghost c r) h = confirmed_self (Ghost c r)
each NoneWaits h = confirmed_self NoneWaits
each (BadCell i) h = confirmed_self (BadCell i)
each BadGrant h = confirmed_self BadGrant
each (PixelsMissing n) h = ap (λ (o : Option ℕ). confirmed (refusal 13 n 0 0) (option_map PixelsMissing o)) (below_is (2 ^ 32) n h) ∙ confirmed_self (PixelsMissing n)
each (GrantsOut n) h = ap (λ (o : Option ℕ). confirmed (refusal 14 n 0 0) (option_map GrantsOut o)) (below_is (2 ^ 32) n h) ∙ confirmed_self (GrantsOut n)
each (LeftOver i b) h = confirmed_self (LeftOver i b)
each NoPlace h = confirmed_self NoPlace
each (Lost c) h = ap (λ (o : Option ℕ). confirmed (refusal 17 c 0 0) (option_map Lost o)) (below_is (2 ^ 8) c h) ∙ confirmed_self (Lost c)
each NoBin h = confirmed_self NoBin
each (RunLength n) h = confirmed_self (RunLength n)
each (NoFile f) h = each_file f.line f.text.byte f.text.reason
each (ShortOutput n) h = confirmed_self (ShortOutput n)
each Oversize h = confirmed_self Oversize

only_told : (r : Refusal) (x e : Fault) (b : Bool) → same (refusal_of x) r ≡ b → cond b (Some x) None ≡ Some e → refusal_of e ≡ r
only_told r x e true s h = let x_is : x ≡ e = cc in ap refusal_of (sym x_is) ∙ same_equal (refusal_of x) r s
only_told r x e false s h = cc

only : (r : Refusal) (o : Option Fault) (e : Fault) → confirmed r o ≡ Some e → refusal_of e ≡ r
only r None e h = cc
only r (Some x) e h = only_told r x e (same (refusal_of x) r) refl h

pub knows_faults : KnowsFaults
knows_faults = record { each = each; only = λ r e. only r (guessed r) e }
