use Rattle.std.proofs.Common.{rules}
use Rattle.std.proofs.lemmas.Iterator.{items_from_collect}
use Rattle.std.proofs.lemmas.Iterator.Consumers.{YieldsList-from_filter_map}
use Rattle.std.proofs.lemmas.Iterator.Splits.{YieldsList-from_slice_split}
use Rattle.samples.specs.contracts.codes.SumWordCoded.TheImpl.{ghosts as sum_codes}
use Rattle.samples.specs.Names.{mark}
use Rattle.samples.specs.Reading.{read_code}
use Rattle.reports.proofs.pgm.samples_in.Goals as goal
use borrow.Author.Tests.{tests}

pub returns : goal.returns
returns c =
    items_from_collect _ c.collect.ensures.ran
    (YieldsList-from_filter_map _ (read_code sum_codes)
    (YieldsList-from_slice_split _ mark c.args.text.now (cc) (cc) (cc) (λ x b q k. search (rules, tests)))
    c.filter_map.ensures.closure (λ x r q k. search (rules, tests)))
