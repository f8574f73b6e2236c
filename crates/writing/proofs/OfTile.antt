-- The parts of a listing, and how long they are.
use Rattle.std.proofs.Common.{◌≡◌, ℕ, suc, ◌+◌, ◌*◌, ◌≤◌, ltb, List, [], ◌∷◌, ◌++◌, length, codes as text, decimal, sym, ap, ◌∙◌, append_assoc, add-one, arith, length-append}
use Rattle.std.proofs.lemmas.Bool.{cond-false, le-ltb}
use Rattle.std.proofs.lemmas.Nat.{mul-le}
use Rattle.samples.specs.declared.coded.Coded.{Ghosts as Codes}
use Rattle.samples.specs.declared.kind.Kind.{Ghosts as Operations}
use Rattle.samples.specs.Reading.{code}
use Rattle.mojette.specs.declared.direction.Record.{Record}
use Rattle.format.specs.Listing.{lost_text, rows_text, tile_text}
use Rattle.format.specs.Texts.{head_text, end_text}
use Rattle.writing.specs.Lines.{spaced, line_text, row_text}
use Rattle.writing.specs.Splices.{filling, listing, most_listing}
use Rattle.writing.proofs.OfLines.{spaced_two}
use Rattle.writing.proofs.OfLost.{lost_on}
use Rattle.writing.proofs.OfRows.{rows_on, length-rows}

pub line_pieces : (word : List ℕ) (ns : List ℕ) → text "(" ++ word ++ spaced decimal ns ++ (41 ∷ (10 ∷ [])) ≡ line_text word ns
line_pieces word ns = simp append_assoc

pub row_pieces : {S : Type 0} (C : Codes S) (xs : List S) → text "(row" ++ spaced (code C) xs ++ (41 ∷ (10 ∷ [])) ≡ row_text C xs
row_pieces C xs = simp append_assoc

head_join : (word name tail bs : List ℕ) → text "(" ++ word ++ text " " ++ name ++ tail ++ bs ≡ text "(" ++ (word ++ (32 ∷ (name ++ (tail ++ bs))))
head_join word name tail bs = simp append_assoc

pub head_pieces :
    (word name : List ℕ) (P Q : ℕ)
    → text "(" ++ word ++ text " " ++ name ++ spaced decimal (P ∷ (Q ∷ [])) ++ (41 ∷ (10 ∷ [])) ≡ head_text word name P Q []
head_pieces word name P Q =
    head_join word name (spaced decimal (P ∷ (Q ∷ []))) (41 ∷ (10 ∷ []))
    ∙ ap (λ l. text "(" ++ (word ++ (32 ∷ (name ++ l)))) (spaced_two decimal P Q (41 ∷ (10 ∷ [])))

pub length-head : (word name : List ℕ) (P Q : ℕ) → length (head_text word name P Q []) ≡ length (line_text word (P ∷ (Q ∷ []))) + 1 + length name
length-head word name P Q = simp length-append (omega arith)

pub head_on : (word name : List ℕ) (P Q : ℕ) (bs : List ℕ) → head_text word name P Q bs ≡ head_text word name P Q [] ++ bs
head_on word name P Q bs = sym (simp append_assoc)

-- a picture with all pixels
pub all_there : {S : Type 0} (P Q : ℕ) (picture : List S) (t out : List ℕ) → P * Q ≤ length picture → filling t out ≡ listing P Q picture t out
all_there P Q picture t out h = sym (cond-false (ltb (length picture) (P * Q)) _ _ (le-ltb (length picture) (P * Q) h))

module _ {S : Type 0} (K : Operations S) (C : Codes S) (word name : List ℕ) (P Q : ℕ) (records : List Record) (picture : List S) (named : name ≡ C.name) where
  pub tile_pieces :
      head_text word name P Q [] ++ lost_text 0 records [] ++ rows_text K C P picture 0 Q [] ++ end_text ≡ tile_text K C word P Q records picture
  tile_pieces =
      let rows = rows_text K C P picture 0 Q [] in
      append_assoc (head_text word name P Q [] ++ lost_text 0 records []) rows end_text
      ∙ append_assoc (head_text word name P Q []) (lost_text 0 records []) (rows ++ end_text)
      ∙ ap (λ l. head_text word name P Q [] ++ (lost_text 0 records [] ++ l)) (sym (rows_on K C P picture 0 Q end_text))
      ∙ ap (λ l. head_text word name P Q [] ++ l) (sym (lost_on 0 records (rows_text K C P picture 0 Q end_text)))
      ∙ sym (head_on word name P Q (lost_text 0 records (rows_text K C P picture 0 Q end_text)))
      ∙ ap (λ n. head_text word n P Q (lost_text 0 records (rows_text K C P picture 0 Q end_text))) named

  pub length-tile :
      length (tile_text K C word P Q records picture)
      ≡ length (head_text word name P Q []) + length (lost_text 0 records []) + length (rows_text K C P picture 0 Q []) + 6
  length-tile =
      ap length (sym tile_pieces)
      ∙ length-append (head_text word name P Q [] ++ lost_text 0 records [] ++ rows_text K C P picture 0 Q []) end_text
      ∙ omega (
        arith,
        length-append (head_text word name P Q [] ++ lost_text 0 records []) (rows_text K C P picture 0 Q []),
        length-append (head_text word name P Q []) (lost_text 0 records []),
      )

  -- what the code counts
  pub counted :
      (head lost digits : ℕ) → head ≡ length (head_text word name P Q []) → lost ≡ length (lost_text 0 records []) → digits ≡ C.width
      → head + lost + Q * (P * (digits + 1) + 6) + 6 ≡ length (tile_text K C word P Q records picture)
  counted head lost digits a b d =
      let e : Q * (P * (digits + 1) + 6) ≡ Q * (P * suc C.width + 6) = ap (λ n. Q * (P * n + 6)) (ap (λ n. n + 1) d ∙ add-one C.width) in
      omega (arith, length-tile, length-rows K C P picture 0 Q)

  -- how long it is at most
  pub tile_fits :
      length (head_text word name P Q []) ≤ 600 → length (lost_text 0 records []) ≤ 784 → P ≤ 64 → Q ≤ 64 → length (tile_text K C word P Q records picture) ≤ most_listing
  tile_fits head lost p q =
      let row : P * suc C.width ≤ 64 * 13 = mul-le P (suc C.width) 64 13 p (omega (arith, C.coding.few_digits)) in
      let rows : Q * (P * suc C.width + 6) ≤ 64 * 838 = mul-le Q (P * suc C.width + 6) 64 838 q (omega (arith, row)) in
      omega (arith, length-tile, length-rows K C P picture 0 Q, rows)
