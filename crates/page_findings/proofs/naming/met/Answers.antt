use Rattle.std.proofs.Common.{◌-◌, ◌∙◌, ap, arith, drop, length, map, rules, take, tests}
use Rattle.std.proofs.lemmas.List.{length-drop, take_all}
use Rattle.std.proofs.lemmas.List.Sorted.{IsPartitionPoint-from_clause}
use Rattle.desk_text.specs.Address.{number_of}
use Rattle.desk_who.specs.Who.{range_value}
use Rattle.page_findings.proofs.Searched.{begins_by, begins_parted, ends_before, ends_parted, met_is}
use Rattle.page_findings.proofs.naming.met.Goals as goal

pub returns : goal.returns
returns c =
    let ranges = c.args.ranges.now in
    let first = number_of c.args.first in
    let last = number_of c.args.last in
    let end = c.partition_point-end.result in
    let begin = c.partition_point-begin.result in
    let below = take end ranges in
    let upper = IsPartitionPoint-from_clause (begins_by last) ranges end c.partition_point-end.ensures.partitioned (begins_parted ranges c.requires last) (λ a r f q. search (rules, tests)) in
    let lower = IsPartitionPoint-from_clause (ends_before first) below begin c.partition_point-begin.ensures.partitioned (ends_parted ranges c.requires first end) (λ a r f q. search (rules, tests)) in
    ap (map range_value) (take_all (length below - begin) (drop begin below) (omega (arith, length-drop begin below)))
    ∙ met_is ranges c.requires first last end begin c.partition_point-end.ensures.bound c.partition_point-begin.ensures.bound upper lower
