use Rattle.std.proofs.Common.{◌≡◌, IfSome, take, ℕ, List, [], ◌++◌, Option, None, Some, ◌∙◌, subst}
use Rattle.std.specs.Prelude.{option_map}
use Rattle.rebuild.proofs.streams.read_front.Goals as goal

front_of : (o : Option (List ℕ)) (n : ℕ) (was ys : List ℕ) → n ≡ 65537 → was ≡ [] → IfSome (option_map (take n) o) (λ xs. ys ≡ was ++ xs) → IfSome o (λ input. ys ≡ take 65537 input)
front_of None n was ys e f h = tt
front_of (Some xs) n was ys e f h = h ∙ (λ i. f i ++ take (e i) xs)

pub returns : goal.returns
returns g c =
    front_of (g.R.Read.remaining c.args.reader) c.take.result.limit c.new-text.result.items c.read_to_end.new.buf.items c.take.ensures.limit c.new-text.ensures.items
    (subst (λ r. IfSome (option_map (take c.take.result.limit) (g.R.Read.remaining r)) (λ xs. c.read_to_end.new.buf.items ≡ c.new-text.result.items ++ xs)) c.take.ensures.inner c.in_ok-read_to_end.ensures.bytes)
