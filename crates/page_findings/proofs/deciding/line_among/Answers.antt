use Rattle.std.proofs.Common.{◌∙◌, rules, tests}
use Rattle.std.proofs.lemmas.List.Sorted.{IsPartitionPoint-from_clause}
use Rattle.page_findings.proofs.Ordered.{found_is, is_before, parted}
use Rattle.page_findings.proofs.deciding.line_among.Goals as goal

pub returns : goal.returns
returns c =
    let lines = c.args.lines.now in
    let place = c.partition_point-place.result in
    let point = IsPartitionPoint-from_clause (is_before c.args.line) lines place c.partition_point-place.ensures.partitioned (parted lines c.requires c.args.line) (λ a r f q. search (rules, tests)) in
    c.line_at.ensures ∙ found_is c.args.line lines c.requires place point c.partition_point-place.ensures.bound
