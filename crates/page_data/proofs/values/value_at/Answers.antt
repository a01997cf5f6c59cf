use Rattle.std.proofs.Common.{◌<◌, ◌≤◌, ◌^◌, ap, arith, length, rules, tests}
use Rattle.std.specs.Prelude.{Some}
use Rattle.std.proofs.lemmas.List.Sorted.{IsPartitionPoint-from_clause}
use Rattle.desk_text.specs.Address.{number_of}
use Rattle.page_data.proofs.Held.{ends_before, ends_parted, held_found, held_none}
use Rattle.page_data.proofs.values.value_at.Goals as goal

pub returns-in-Some : goal.returns-in-Some
returns-in-Some g c = λ value_at are.
    let meaning = g.T.Alike.meaning in
    let runs = c.args.runs.now in
    let address = number_of c.args.address in
    let fits : address < 2 ^ 32 = omega (arith, c.number-number.type_inv, c.number-number.ensures) in
    let first = c.partition_point-first.result in
    let run = c.in-Some.run'.now in
    let point = IsPartitionPoint-from_clause (ends_before meaning value_at address) runs first c.partition_point-first.ensures.partitioned (ends_parted meaning value_at runs are address fits) (λ a r f q. search (rules, tests)) in
    let there = c.in-Some.ensures.lookup in
    ap Some (held_found meaning value_at runs are address fits first run point there.3.0 there.1)

pub returns-in-None : goal.returns-in-None
returns-in-None g c = λ value_at are.
    let meaning = g.T.Alike.meaning in
    let runs = c.args.runs.now in
    let address = number_of c.args.address in
    let fits : address < 2 ^ 32 = omega (arith, c.number-number.type_inv, c.number-number.ensures) in
    let first = c.partition_point-first.result in
    let point = IsPartitionPoint-from_clause (ends_before meaning value_at address) runs first c.partition_point-first.ensures.partitioned (ends_parted meaning value_at runs are address fits) (λ a r f q. search (rules, tests)) in
    let past : length runs ≤ first = (rw c.in-None.is at c.get.ensures.lookup).3 in
    absurd (held_none meaning value_at runs are address fits first point past)
