use Rattle.std.proofs.Common.{◌-◌, ◌∙◌, ap, arith, drop, length, map, refl, rules, take, tests}
use Rattle.std.proofs.lemmas.List.{length-drop, take_all}
use Rattle.std.proofs.lemmas.List.Sorted.{IsPartitionPoint-from_clause}
use Rattle.desk_text.specs.Address.{number_of}
use Rattle.desk_who.proofs.Slices.{before_parted, between_is, is_before, up_to, up_to_parted}
use Rattle.desk_who.proofs.starts.between.Goals as goal

pub returns : goal.returns
returns c =
    let items = c.args.addresses.now in
    let first = number_of c.args.first in
    let last = number_of c.args.last in
    let end = c.partition_point-end.result in
    let begin = c.partition_point-begin.result in
    let below = take end items in
    let upper = IsPartitionPoint-from_clause (up_to last) items end c.partition_point-end.ensures.partitioned (up_to_parted items c.requires last) (λ a r f q. search (rules, tests)) in
    let lower = IsPartitionPoint-from_clause (is_before first) below begin c.partition_point-begin.ensures.partitioned (before_parted items below end c.requires refl first) (λ a r f q. search (rules, tests)) in
    ap (map number_of) (take_all (length below - begin) (drop begin below) (omega (arith, length-drop begin below)))
    ∙ between_is items below end c.requires refl (drop begin below) first last begin refl c.partition_point-end.ensures.bound c.partition_point-begin.ensures.bound upper lower
