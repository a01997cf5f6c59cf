use Rattle.std.proofs.Common.{◌∙◌, rules}
use Rattle.std.proofs.lemmas.Iterator.{YieldsList-from_slice}
use Rattle.std.proofs.lemmas.Iterator.Consumers.{YieldsList-from_filter, count_from_yields_List}
use Rattle.std.proofs.lemmas.List.Sums.{length-filter}
use Rattle.page_findings.specs.Lines.{is_read_write, line_value}
use Rattle.page_findings.proofs.Mapped.{count_mapped}
use Rattle.page_findings.proofs.flavours.count_read_write.Goals as goal

pub returns : goal.returns
returns c =
    count_from_yields_List c.filter.result _ c.count.ensures.ran
    (YieldsList-from_filter _ (λ line. is_read_write (line_value line)) (YieldsList-from_slice c.args.lines.now cc) c.filter.ensures.closure (λ x r q k. search rules))
    ∙ length-filter (λ line. is_read_write (line_value line)) c.args.lines.now ∙ count_mapped line_value is_read_write c.args.lines.now
