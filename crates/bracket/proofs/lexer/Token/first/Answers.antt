use Rattle.std.proofs.Common.{◌≡◌, ◌<◌, None, length, get_or, sym, ap, ◌∙◌, refl, arith}
use Rattle.bracket.specs.Lexing.{mark_of}
use Rattle.bracket.proofs.OfLexer.{word_first}
use Rattle.bracket.proofs.lexer.Token.first.Goals as goal

pub returns : goal.returns
returns c =
    let rest = c.args.rest.now in
    let some : 0 < length rest = grind arith in
    let first : get_or rest 0 0 ≡ c.in-Some.first.now = grind arith in
    let none : mark_of (get_or rest 0 0) ≡ None = ap mark_of first ∙ sym c.mark.ensures ∙ c.in_default-mark.is in
    let w = word_first rest c.run_len.result some none c.run_len.ensures.value in
    (w.front, refl, w.word)
