use Rattle.std.proofs.Common.{ℕ, rules, tests}
use Rattle.std.specs.Prelude.{nat_lt}
use Rattle.std.proofs.lemmas.List.Sorted.{IsPartitionPoint-from_clause, IsPartitionedBy-ltb}
use Rattle.desk_expect.proofs.Held.{parted_count}
use Rattle.desk_expect.proofs.spans.ended_before.Goals as goal

pub returns : goal.returns
returns c =
    let before = λ (last : ℕ). nat_lt last c.args.number in
    let numbers = c.args.numbers.now in
    let point = IsPartitionPoint-from_clause before numbers c.partition_point.result c.partition_point.ensures.partitioned (IsPartitionedBy-ltb (λ n. n) numbers c.args.number c.requires) (λ a r f q. search (rules, tests)) in
    parted_count before numbers c.partition_point.result point c.partition_point.ensures.bound
