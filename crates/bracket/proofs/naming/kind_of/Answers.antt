use Rattle.std.proofs.Common.{◌≡◌, sym, subst, ◌∙◌, rules}
use Rattle.bracket.specs.Kinds.{kind_named, Named}
use Rattle.bracket.proofs.OfKinds.{named, unread}
use Rattle.bracket.proofs.naming.kind_of.Goals as goal

pub returns-clause-files : goal.returns-clause-files
returns-clause-files c =
    let same : c.ok.result ≡ kind_named c.args.text.now = search rules in
    subst (Named c.args.text.now) (sym same) (named c.args.text.now)

pub returns-clause-none : goal.returns-clause-none
returns-clause-none c e =
    let same : c.ok.result ≡ kind_named c.args.text.now = search rules in
    unread c.args.text.now (sym same ∙ e)
