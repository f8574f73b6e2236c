use Rattle.std.proofs.Common.{◌+◌, drop, refl, ap, ◌∙◌, arith}
use Rattle.std.proofs.lemmas.List.{length-drop}
use Rattle.bracket.specs.Lexing.{left, place}
use Rattle.bracket.proofs.OfLexer.{is_first, next_rest, token_within}
use Rattle.bracket.proofs.lexer.Lexer.next.Goals as goal

pub invariant_of-self : goal.invariant_of-self
invariant_of-self c =
    let l = c.args.self.now in
    let i = is_first l c.byte.result c.first-token.result c.byte.ensures c.first-token.ensures in
    record { inside = omega (arith, token_within c.first-token.result (place l) (left l) i, c.len.ensures, length-drop l.at l.text.now, l.inside) }

pub returns : goal.returns
returns c =
    let l = c.args.self.now in
    let i = is_first l c.byte.result c.first-token.result c.byte.ensures c.first-token.ensures in
    record {
      is = i;
      rest = ap (λ n. drop (l.at + n) l.text.now) c.len.ensures ∙ next_rest l.at l.text.now c.first-token.result _ i;
      same = refl;
    }
