use Rattle.std.proofs.Common.{◌∙◌, rules}
use Rattle.std.proofs.lemmas.Iterator.{YieldsList-from_slice}
use Rattle.std.proofs.lemmas.Iterator.Consumers.{YieldsList-from_filter, count_from_yields_List}
use Rattle.std.proofs.lemmas.List.Sums.{length-filter}
use Rattle.page_findings.proofs.Mapped.{count_mapped}
use Rattle.page_places.specs.Changes.{row_value}
use Rattle.page_places.specs.Widening.{widens}
use Rattle.page_places.proofs.widening.widening_among.Goals as goal

pub returns : goal.returns
returns c =
    count_from_yields_List c.filter.result _ c.count.ensures.ran
    (YieldsList-from_filter _ (λ row. widens (row_value row)) (YieldsList-from_slice c.args.rows.now cc) c.filter.ensures.closure (λ x r q k. search rules))
    ∙ length-filter (λ row. widens (row_value row)) c.args.rows.now ∙ count_mapped row_value widens c.args.rows.now
