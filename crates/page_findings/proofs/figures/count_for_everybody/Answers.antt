use Rattle.std.proofs.Common.{◌∙◌, rules}
use Rattle.std.proofs.lemmas.Iterator.{YieldsList-from_slice}
use Rattle.std.proofs.lemmas.Iterator.Consumers.{YieldsList-from_filter, count_from_yields_List}
use Rattle.std.proofs.lemmas.List.Sums.{length-filter}
use Rattle.page_findings.specs.Figures.{is_for_everybody}
use Rattle.page_findings.specs.Lines.{line_value}
use Rattle.page_findings.proofs.Mapped.{count_mapped}
use Rattle.page_findings.proofs.figures.count_for_everybody.Goals as goal

pub returns : goal.returns
returns c =
    count_from_yields_List c.filter.result _ c.count.ensures.ran
    (YieldsList-from_filter _ (λ line. is_for_everybody (line_value line)) (YieldsList-from_slice c.args.lines.now cc) c.filter.ensures.closure (λ x r q k. search rules))
    ∙ length-filter (λ line. is_for_everybody (line_value line)) c.args.lines.now ∙ count_mapped line_value is_for_everybody c.args.lines.now
