use Rattle.std.proofs.Common.{ℕ, rules, tests}
use Rattle.std.specs.Prelude.{nat_le}
use Rattle.std.proofs.lemmas.List.Sorted.{IsPartitionPoint-from_clause, IsPartitionedBy-leb}
use Rattle.desk_expect.proofs.Held.{parted_count}
use Rattle.desk_expect.proofs.spans.begun_up_to.Goals as goal

pub returns : goal.returns
returns c =
    let up_to = λ (first : ℕ). nat_le first c.args.number in
    let numbers = c.args.numbers.now in
    let point = IsPartitionPoint-from_clause up_to numbers c.partition_point.result c.partition_point.ensures.partitioned (IsPartitionedBy-leb (λ n. n) numbers c.args.number c.requires) (λ a r f q. search (rules, tests)) in
    parted_count up_to numbers c.partition_point.result point c.partition_point.ensures.bound
