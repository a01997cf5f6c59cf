use Rattle.std.proofs.Common.{◌≤◌, ◌∙◌, length, rules, sym, tests}
use Rattle.std.proofs.lemmas.List.Sorted.{IsPartitionPoint-from_clause}
use Rattle.desk_impact.proofs.Searched.{comes_before, found_at, lacks_past, partitioned}
use Rattle.desk_impact.proofs.unwritten_path.is_among.Goals as goal

pub returns-in-Some : goal.returns-in-Some
returns-in-Some c =
    let paths = c.args.paths.now in
    let path = c.args.path.now in
    let first = c.partition_point-first.result in
    let found = c.partition_point-first.ensures in
    let point = IsPartitionPoint-from_clause (comes_before path) paths first found.partitioned (partitioned path paths c.requires) (λ a r f q. search (rules, tests)) in
    let there = c.in-Some.ensures.lookup in
    c.eq.ensures.same ∙ sym (found_at path paths c.requires first point c.in-Some.other.now there.3.0 there.1)

pub returns-in-None : goal.returns-in-None
returns-in-None c =
    let paths = c.args.paths.now in
    let path = c.args.path.now in
    let first = c.partition_point-first.result in
    let found = c.partition_point-first.ensures in
    let point = IsPartitionPoint-from_clause (comes_before path) paths first found.partitioned (partitioned path paths c.requires) (λ a r f q. search (rules, tests)) in
    let past : length paths ≤ first = (rw c.in-None.is at c.get.ensures.lookup).3 in
    sym (lacks_past path paths c.requires first point past)
