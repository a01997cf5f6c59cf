use Rattle.std.proofs.Common.{◌≡◌, ◌≤◌, ◌∙◌, length, rules, sym, tests}
use Rattle.std.proofs.lemmas.List.Sorted.{IsPartitionPoint-from_clause}
use Rattle.page_data.proofs.Numbered.{found_there, is_before, none_there, not_there, parted}
use Rattle.page_data.proofs.Served.{repeated_line}
use Rattle.page_data.proofs.server.repeated_of.Goals as goal

pub returns-in-Some : goal.returns-in-Some
returns-in-Some c =
    let found = c.args.found.now in
    let place = c.partition_point-place.result in
    let one = c.in-Some.one.now in
    let there = c.in-Some.ensures.lookup in
    let point = IsPartitionPoint-from_clause (is_before repeated_line c.args.line) found place c.partition_point-place.ensures.partitioned (parted repeated_line found c.requires c.args.line) (λ a r f q. search (rules, tests)) in
    sym (found_there repeated_line found c.requires c.args.line place point one there.3.0 there.1 c.if-one-line.true)

pub returns-in_default : goal.returns-in_default
returns-in_default c =
    let found = c.args.found.now in
    let place = c.partition_point-place.result in
    let one = c.in-Some.one.now in
    let there = c.in-Some.ensures.lookup in
    let point = IsPartitionPoint-from_clause (is_before repeated_line c.args.line) found place c.partition_point-place.ensures.partitioned (parted repeated_line found c.requires c.args.line) (λ a r f q. search (rules, tests)) in
    sym (not_there repeated_line found c.requires c.args.line place point one there.3.0 there.1 c.if-one-line.false)

pub returns-in_default-2 : goal.returns-in_default-2
returns-in_default-2 c =
    let found = c.args.found.now in
    let place = c.partition_point-place.result in
    let point = IsPartitionPoint-from_clause (is_before repeated_line c.args.line) found place c.partition_point-place.ensures.partitioned (parted repeated_line found c.requires c.args.line) (λ a r f q. search (rules, tests)) in
    let past : length found ≤ place = (rw c.in_default.is at c.get.ensures.lookup).3 in
    sym (none_there repeated_line found c.requires c.args.line place point past)
