-- A sample has one code, and every code is read as its sample.
use Rattle.std.proofs.Common.{◌≡◌, ℕ, true, false, List, Some, None, Option, sym, ap, ◌∙◌, ⊎_elim, arith}
use Rattle.std.proofs.lemmas.Bool.{cond-true, cond-false, cases_Bool}
use Rattle.samples.specs.declared.coded.Coded.{Ghosts as Codes}
use Rattle.samples.specs.Codes.{hex_text, hex_number, is_code}
use Rattle.samples.specs.Reading.{code, read_code, OneToOne}
use Rattle.samples.proofs.Digits.{length-hex_text, code_there, code_back}

module _ {S : Type 0} (C : Codes S) where
  reads_back : (x : S) → read_code C (code C x) ≡ Some x
  reads_back x =
      let there = code_there C.width (C.number x) (C.coding.number_fits x) in
      cond-true _ _ _ there.0 ∙ ap {B = Option S} (λ n. Some (C.sample n)) there.1 ∙ ap {B = Option S} Some (C.coding.sample_number x)

  writes_back : (w : List ℕ) (x : S) → read_code C w ≡ Some x → w ≡ code C x
  writes_back w x h = ⊎_elim is isnt (cases_Bool (is_code C.width w))
    where
      is : is_code C.width w ≡ true → w ≡ code C x
      is e =
          let back = code_back C.width w e in
          let found : Some (C.sample (hex_number w)) ≡ Some x = sym (cond-true _ _ _ e) ∙ h in
          let same : C.sample (hex_number w) ≡ x = cc in
          sym back.1 ∙ ap (hex_text C.width) (sym (C.coding.number_sample (hex_number w) back.0) ∙ ap C.number same)

      isnt : is_code C.width w ≡ false → w ≡ code C x
      isnt e =
          let none : None ≡ Some x = sym (cond-false _ _ _ e) ∙ h in
          let z : ◌≡◌ {A = ℕ} 0 1 = cc in absurd (omega arith)

  pub one_to_one : OneToOne C
  one_to_one = record {
    digits = λ x. length-hex_text C.width (C.number x);
    reads_back = reads_back;
    writes_back = writes_back;
    apart = λ x y e. let same : Some x ≡ Some y = sym (reads_back x) ∙ ap (read_code C) e ∙ reads_back y in cc;
  }
