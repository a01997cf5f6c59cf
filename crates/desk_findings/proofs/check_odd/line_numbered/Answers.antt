use Rattle.std.proofs.Common.{rules, tests}
use Rattle.std.proofs.lemmas.List.Sorted.{IsPartitionPoint-from_clause}
use Rattle.desk_findings.proofs.PlacedWords.{at_place, is_before, parted}
use Rattle.desk_findings.proofs.check_odd.line_numbered.Goals as goal

pub returns-clause-found : goal.returns-clause-found
returns-clause-found c = λ line has number.
    let lines = c.args.lines.now in
    let place = c.partition_point-at.result in
    let point = IsPartitionPoint-from_clause (is_before c.args.number) lines place c.partition_point-at.ensures.partitioned (parted lines c.requires c.args.number) (λ a r f q. search (rules, tests)) in
    c.line_at.ensures.found line (at_place lines c.requires c.args.number place point line has number) number
