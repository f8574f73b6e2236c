-- Two groups side by side.
use Rattle.std.specs.Prelude.{Bool, ◌&&◌}
use Rattle.std.proofs.Common.{ap}
use Rattle.std.proofs.lemmas.Bool.{and_parts, and_from}
use Rattle.samples.specs.Group.{Group}
use Rattle.samples.specs.declared.words.Pair.{Pair}

abbrev pub pair_of : {A B : Type 0} → A → B → Pair A B
pair_of a b = record { first = a; second = b }

abbrev pub pair_plus : {A B : Type 0} → (A → A → A) → (B → B → B) → Pair A B → Pair A B → Pair A B
pair_plus f g x y = pair_of (f x.first y.first) (g x.second y.second)

abbrev pub pair_inverse : {A B : Type 0} → (A → A) → (B → B) → Pair A B → Pair A B
pair_inverse f g x = pair_of (f x.first) (g x.second)

abbrev pub pair_equal : {A B : Type 0} → (A → A → Bool) → (B → B → Bool) → Pair A B → Pair A B → Bool
pair_equal f g x y = f x.first y.first && g x.second y.second

module _ {A B : Type 0} {f : A → A → A} {n : A → A} {z s : A} {e : A → A → Bool} {g : B → B → B} {m : B → B} {w t : B} {h : B → B → Bool} (a : Group f n z s e) (b : Group g m w t h) where
  pub pair_laws : Group (pair_plus f g) (pair_inverse n m) (pair_of z w) (pair_of s t) (pair_equal e h)
  pair_laws = record {
    assoc = λ x y u. λ i. pair_of (a.assoc x.first y.first u.first i) (b.assoc x.second y.second u.second i);
    comm = λ x y. λ i. pair_of (a.comm x.first y.first i) (b.comm x.second y.second i);
    neutral = λ x. λ i. pair_of (a.neutral x.first i) (b.neutral x.second i);
    cancel = λ x. λ i. pair_of (a.cancel x.first i) (b.cancel x.second i);
    apart = λ same. a.apart (ap (λ p. p.first) same);
    equal_same = λ x y yes.
        let both = and_parts (e x.first y.first) (h x.second y.second) yes in
        λ i. pair_of (a.equal_same x.first y.first both.0 i) (b.equal_same x.second y.second both.1 i);
    equal_self = λ x. and_from (e x.first x.first) (h x.second x.second) (a.equal_self x.first) (b.equal_self x.second);
  }
