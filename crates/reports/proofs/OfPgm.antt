-- The samples of the listing of a picture.
use Rattle.std.proofs.Common.{◌≡◌, ℕ, zero, suc, ◌+◌, Bool, true, false, cond, not, eqb, leb, List, [], ◌∷◌, ◌++◌, length, take, drop, Some, decimal, codes as text, refl, sym, ap, ◌∙◌, append_assoc, arith}
use Rattle.std.specs.Char.{is_ascii_digit}
use Rattle.std.specs.List.{cons_option, filter_map, onto_first, slice_split}
use Rattle.std.specs.Str.{all_ascii_digits}
use Rattle.std.proofs.lemmas.Bool.{and_parts, ne_eqb, leb-true}
use Rattle.std.proofs.lemmas.Fmt.{digits_decimal}
use Rattle.std.proofs.lemmas.List.Splits.{slice_split-cons_yes, slice_split-cons_no}
use Rattle.samples.specs.declared.words.SumWord.{SumWord}
use Rattle.samples.specs.contracts.codes.SumWordCoded.TheImpl.{ghosts as sum_codes}
use Rattle.samples.specs.contracts.impls.SumWordKind.TheImpl.{ghosts as sum_operations}
use Rattle.samples.specs.Names.{mark, Unmarked, IsWord}
use Rattle.samples.specs.Reading.{code, read_code}
use Rattle.samples.proofs.Codings.{one_to_one}
use Rattle.format.specs.Listing.{row, rows_text}
use Rattle.format.specs.Texts.{codes_text, end_text}
use Rattle.format.proofs.OfCodes.{word_code}
use Rattle.reports.specs.Pgm.{samples_in, size_len, pgm_bytes, picture_bytes, rows_of, ShowsPicture}
use Rattle.reports.proofs.OfListings.{own}

-- a byte that is a token by itself is no sample
mark_skip : (m : ℕ) (t : List ℕ) → mark m ≡ true → samples_in (m ∷ t) ≡ samples_in t
mark_skip m t h = ap (filter_map (read_code sum_codes)) (slice_split-cons_yes mark m t h)

word_split : (w : List ℕ) (m : ℕ) (t : List ℕ) → Unmarked w → mark m ≡ true → slice_split mark (w ++ m ∷ t) ≡ w ∷ slice_split mark t
word_split [] m t u h = slice_split-cons_yes mark m t h
word_split (c ∷ cs) m t u h = slice_split-cons_no mark c (cs ++ m ∷ t) u.0 ∙ ap (onto_first c) (word_split cs m t u.1 h)

-- a word is the sample whose code it is, if it is a code
word_first : (w : List ℕ) (m : ℕ) (t : List ℕ) → Unmarked w → mark m ≡ true → samples_in (w ++ m ∷ t) ≡ cons_option (read_code sum_codes w) (samples_in t)
word_first w m t u h = ap (filter_map (read_code sum_codes)) (word_split w m t u h)

unmarked : (w : List ℕ) → IsWord w → Unmarked w
unmarked [] h = absurd h
unmarked (b ∷ bs) h = h

code_first : (x : SumWord) (m : ℕ) (t : List ℕ) → mark m ≡ true → samples_in (code sum_codes x ++ m ∷ t) ≡ x ∷ samples_in t
code_first x m t h =
    word_first (code sum_codes x) m t (unmarked (code sum_codes x) (word_code sum_codes x)) h
    ∙ ap (λ o. cons_option o (samples_in t)) ((one_to_one sum_codes).reads_back x)

-- codes, each after a space, before a bracket
codes_first : (xs : List SumWord) (t : List ℕ) → samples_in (codes_text sum_codes xs (41 ∷ t)) ≡ xs ++ samples_in t
codes_first [] t = mark_skip 41 t refl
codes_first (x ∷ []) t = mark_skip 32 (code sum_codes x ++ 41 ∷ t) refl ∙ code_first x 41 t refl
codes_first (x ∷ y ∷ ys) t =
    let rest = code sum_codes y ++ codes_text sum_codes ys (41 ∷ t) in
    mark_skip 32 (code sum_codes x ++ 32 ∷ rest) refl ∙ code_first x 32 rest refl ∙ ap (λ zs. x ∷ zs) (sym (mark_skip 32 rest refl) ∙ codes_first (y ∷ ys) t)

-- the same behind the word of a row
row_first : (xs : List SumWord) (t : List ℕ) → samples_in (text "row" ++ codes_text sum_codes xs (41 ∷ t)) ≡ xs ++ samples_in t
row_first [] t = word_first (text "row") 41 t (refl, (refl, (refl, tt))) refl
row_first (x ∷ xs) t =
    let rest = code sum_codes x ++ codes_text sum_codes xs (41 ∷ t) in
    word_first (text "row") 32 rest (refl, (refl, (refl, tt))) refl ∙ sym (mark_skip 32 rest refl) ∙ codes_first (x ∷ xs) t

module _ (P : ℕ) (tile : List SumWord) where
  all_rows : (l n : ℕ) → samples_in (rows_text sum_operations sum_codes P tile l n end_text) ≡ rows_of P tile l n
  all_rows l zero = refl
  all_rows l (suc n) =
      let xs = row sum_operations sum_codes P tile l in
      let more = rows_text sum_operations sum_codes P tile (suc l) n end_text in
      mark_skip 40 (text "row" ++ codes_text sum_codes xs (41 ∷ (10 ∷ more))) refl ∙ row_first xs (10 ∷ more)
      ∙ ap (λ zs. xs ++ zs) (mark_skip 10 more refl ∙ all_rows (suc l) n)

-- No byte is a closing bracket.
abbrev Open : List ℕ → Type 0
Open [] = Unit {0}
Open (b ∷ bs) = (eqb b 41 ≡ false) × Open bs

open_digits : (ds : List ℕ) → all_ascii_digits ds ≡ true → Open ds
open_digits [] h = tt
open_digits (c ∷ cs) h =
    let d = and_parts (is_ascii_digit c) (all_ascii_digits cs) h in
    (ne_eqb c 41 (λ e. omega (arith, leb-true 48 c (and_parts (leb 48 c) (leb c 57) d.0).0)), open_digits cs d.1)

open_append : (ds es : List ℕ) → Open ds → Open es → Open (ds ++ es)
open_append [] es h k = k
open_append (c ∷ cs) es h k = (h.0, open_append cs es h.1 k)

-- what stands before the first bracket
size_first : (ds t : List ℕ) → Open ds → size_len (ds ++ 41 ∷ t) ≡ length ds
size_first [] t h = refl
size_first (c ∷ cs) t h =
    ap (λ (b : Bool). cond (not b) (1 + size_len (cs ++ 41 ∷ t)) 0) h.0 ∙ ap (λ n. 1 + n) (size_first cs t h.1) ∙ (omega arith)

take_first : (ds t : List ℕ) → take (length ds) (ds ++ t) ≡ ds
take_first [] t = refl
take_first (c ∷ cs) t = ap (λ xs. c ∷ xs) (take_first cs t)

drop_first : (ds t : List ℕ) → drop (length ds) (ds ++ t) ≡ t
drop_first [] t = refl
drop_first (c ∷ cs) t = drop_first cs t

picture_is : (size rows : List ℕ) → Open size → picture_bytes (size ++ 41 ∷ (10 ∷ rows)) ≡ pgm_bytes size (samples_in rows)
picture_is size rows h =
    let t = size ++ 41 ∷ (10 ∷ rows) in
    let n = size_first size (10 ∷ rows) h in
    let front : take (size_len t) t ≡ size = ap (λ k. take k t) n ∙ take_first size (41 ∷ (10 ∷ rows)) in
    let back : drop (size_len t) t ≡ 41 ∷ (10 ∷ rows) = ap (λ k. drop k t) n ∙ drop_first size (41 ∷ (10 ∷ rows)) in
    let samples : samples_in (drop (size_len t) t) ≡ samples_in rows = ap samples_in back ∙ mark_skip 41 (10 ∷ rows) refl ∙ mark_skip 10 rows refl in
    λ i. pgm_bytes (front i) (samples i)

pub shows_picture : ShowsPicture
shows_picture s tile p q =
    let size = decimal s.P ++ 32 ∷ decimal s.Q in
    let rows = rows_text sum_operations sum_codes s.P tile 0 s.Q end_text in
    let is_open : Open size = open_append (decimal s.P) (32 ∷ decimal s.Q) (open_digits (decimal s.P) (digits_decimal own s.P p)) (refl, open_digits (decimal s.Q) (digits_decimal own s.Q q)) in
    let parts : decimal s.P ++ (32 ∷ (decimal s.Q ++ (41 ∷ (10 ∷ rows)))) ≡ size ++ 41 ∷ (10 ∷ rows) = sym (append_assoc (decimal s.P) (32 ∷ decimal s.Q) (41 ∷ (10 ∷ rows))) in
    let file = ap picture_bytes parts ∙ picture_is size rows is_open ∙ ap (pgm_bytes size) (all_rows s.P tile 0 s.Q) in
    ap Some file
