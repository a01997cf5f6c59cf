use Rattle.std.proofs.Common.{◌≡◌, ◌≤◌, ◌∙◌, length, rules, sym, tests}
use Rattle.std.proofs.lemmas.List.Sorted.{IsPartitionPoint-from_clause}
use Rattle.page_data.proofs.Numbered.{found_there, is_before, none_there, not_there, parted}
use Rattle.page_data.proofs.Served.{wider_line}
use Rattle.page_data.proofs.server.wider_of.Goals.{in_default-via-in-Some+else-one-line, in_default-via-in_default}
use Rattle.page_data.proofs.server.wider_of.Goals as goal

pub returns-in-Some : goal.returns-in-Some
returns-in-Some c =
    let found = c.args.found.now in
    let place = c.partition_point-place.result in
    let one = c.in-Some.one.now in
    let there = c.in-Some.ensures.lookup in
    let point = IsPartitionPoint-from_clause (is_before wider_line c.args.line) found place c.partition_point-place.ensures.partitioned (parted wider_line found c.requires c.args.line) (λ a r f q. search (rules, tests)) in
    sym (found_there wider_line found c.requires c.args.line place point one there.3.0 there.1 c.if-one-line.true)

pub returns-in_default : goal.returns-in_default
returns-in_default c =
    let found = c.args.found.now in
    let place = c.partition_point-place.result in
    let point = IsPartitionPoint-from_clause (is_before wider_line c.args.line) found place c.partition_point-place.ensures.partitioned (parted wider_line found c.requires c.args.line) (λ a r f q. search (rules, tests)) in
    elim c.in_default.branch [
      | in_default-via-in-Some+else-one-line w ↦
          let one = w.in-Some.one.now in
          let there = w.in-Some.ensures.lookup in
          sym (not_there wider_line found c.requires c.args.line place point one there.3.0 there.1 w.if-one-line.false)
      | in_default-via-in_default w ↦
          let past : length found ≤ place = (rw w.in_default.is at c.get.ensures.lookup).3 in
          sym (none_there wider_line found c.requires c.args.line place point past)
    ]
