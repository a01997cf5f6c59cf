use Rattle.std.proofs.Common.{◌≡◌, ◌-◌, drop, length, rules, subst, sym, take, tests}
use Rattle.std.specs.List.Sorted.{IsPartitionedBy}
use Rattle.std.proofs.lemmas.List.{take_rest}
use Rattle.std.proofs.lemmas.List.Sorted.{IsPartitionPoint-from_clause}
use Rattle.desk_text.specs.Address.{number_of}
use Rattle.page_maps.specs.PrivateCells.{AreMet}
use Rattle.page_maps.proofs.Meeting.{BeginsAt, begins_parted, begins_within, ends_before, ends_parted, met}
use Rattle.page_maps.proofs.cells.meeting.Goals as goal

pub returns : goal.returns
returns c = λ class_at tell.
    let runs = c.args.runs.now in
    let first = number_of c.args.first in
    let last = number_of c.args.last in
    let before = c.partition_point-before.result in
    let count = c.partition_point-count.result in
    let rest = take (length runs - before) (drop before runs) in
    let whole : take (length runs - before) (drop before runs) ≡ drop before runs = take_rest runs before in
    let ends = IsPartitionPoint-from_clause (ends_before first) runs before c.partition_point-before.ensures.partitioned (ends_parted runs first tell.lasts) (λ a r f q. search (rules, tests)) in
    let begins = IsPartitionPoint-from_clause (begins_within last) rest count c.partition_point-count.ensures.partitioned (subst (IsPartitionedBy (begins_within last)) (sym whole) (begins_parted runs before last tell.firsts)) (λ a r f q. search (rules, tests)) in
    subst (λ xs. AreMet class_at first last (take count xs)) (sym whole) (met runs first last before count ends (subst (λ xs. BeginsAt last xs count) whole begins) class_at tell)
