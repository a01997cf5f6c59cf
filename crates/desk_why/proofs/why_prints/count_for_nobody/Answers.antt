use Rattle.std.proofs.Common.{◌∙◌, rules}
use Rattle.std.proofs.lemmas.Iterator.{YieldsList-from_slice}
use Rattle.std.proofs.lemmas.Iterator.Consumers.{YieldsList-from_filter, count_from_yields_List}
use Rattle.std.proofs.lemmas.List.Sums.{length-filter}
use Rattle.desk_why.specs.Matches.{is_for_nobody}
use Rattle.desk_why.proofs.why_prints.count_for_nobody.Goals as goal

pub returns : goal.returns
returns c =
    count_from_yields_List c.filter.result _ c.count.ensures.ran
    (YieldsList-from_filter _ is_for_nobody (YieldsList-from_slice c.args.rows.now cc) c.filter.ensures.closure (λ x r q k. search rules))
    ∙ length-filter is_for_nobody c.args.rows.now
