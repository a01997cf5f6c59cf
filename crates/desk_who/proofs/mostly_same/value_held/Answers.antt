use Rattle.std.proofs.Common.{◌≡◌, ◌≤◌, ◌∙◌, ap, cond, length, rules, sym, tests}
use Rattle.std.specs.Prelude.{Some, None, nat_le}
use Rattle.std.proofs.lemmas.List.Sorted.{IsPartitionPoint-from_clause}
use Rattle.desk_text.specs.Address.{number_of}
use Rattle.desk_who.proofs.Held.{ends_before, ends_parted, held_found, held_none}
use Rattle.desk_who.proofs.mostly_same.value_held.Goals as goal

pub returns-in-Some : goal.returns-in-Some
returns-in-Some g c = λ ranges.
    let meaning = g.T.Alike.meaning in
    let others = c.args.others.now in
    let address = number_of c.args.address in
    let first = c.partition_point-first.result in
    let run = c.in-Some.run'.now in
    let same : c.number-number.result ≡ address = c.number-number.ensures in
    let point = IsPartitionPoint-from_clause (ends_before meaning address) others first c.partition_point-first.ensures.partitioned (ends_parted meaning others address ranges) (λ a r f q. search (rules, tests, same)) in
    let there = c.in-Some.ensures.lookup in
    c.value_within.ensures ∙ ap (λ n. cond (nat_le (number_of run.first) n) (Some (meaning run.value)) None) same
    ∙ sym (held_found meaning address others ranges first run point there.3.0 there.1)

pub returns-in-None : goal.returns-in-None
returns-in-None g c = λ ranges.
    let meaning = g.T.Alike.meaning in
    let others = c.args.others.now in
    let address = number_of c.args.address in
    let first = c.partition_point-first.result in
    let same : c.number-number.result ≡ address = c.number-number.ensures in
    let point = IsPartitionPoint-from_clause (ends_before meaning address) others first c.partition_point-first.ensures.partitioned (ends_parted meaning others address ranges) (λ a r f q. search (rules, tests, same)) in
    let past : length others ≤ first = (rw c.in-None.is at c.get.ensures.lookup).3 in
    sym (held_none meaning address others first point past)
