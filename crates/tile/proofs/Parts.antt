-- A part of a list, put back in its place.
use Rattle.std.proofs.Common.{◌≡◌, ℕ, ◌+◌, ◌-◌, ◌<◌, ◌≤◌, List, ◌++◌, length, take, drop, set, sym, ap, ◌∙◌, length-take-le, arith}
use Rattle.std.proofs.lemmas.List.{take-append-drop, set-append_left, set-append_right}
use borrow.Rule.Slice.PartMut.{put_mid}

module _ {X : Type 0} (from n : ℕ) (xs : List X) where
  pub put_same : put_mid from n xs (take n (drop from xs)) ≡ xs
  put_same = ap (λ ys. take from xs ++ ys) (take-append-drop n (drop from xs)) ∙ take-append-drop from xs

  pub put_set : (ys : List X) (i : ℕ) (v : X) → from ≤ length xs → i < length ys → put_mid from n xs (set ys i v) ≡ set (put_mid from n xs ys) (from + i) v
  put_set ys i v l h =
      let here : from + i - from ≡ i = omega arith in
      sym (set-append_right (take from xs) (ys ++ drop n (drop from xs)) from (from + i) v (length-take-le from xs l) (omega arith)
      ∙ ap (λ k. take from xs ++ set (ys ++ drop n (drop from xs)) k v) here
      ∙ ap (λ zs. take from xs ++ zs) (set-append_left ys (drop n (drop from xs)) i v h))
