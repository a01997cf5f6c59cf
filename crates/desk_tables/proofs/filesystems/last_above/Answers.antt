use Rattle.std.proofs.Common.{rules, tests}
use Rattle.std.proofs.lemmas.List.Sorted.{IsPartitionPoint-from_clause}
use Rattle.desk_tables.proofs.FileSystemLemmas.{up_to, up_to-partitioned, behind_apart}
use Rattle.desk_tables.proofs.filesystems.last_above.Goals as goal

pub loop-index-init : goal.loop-index-init
loop-index-init c =
    let mounts = c.args.mounts.now in
    let path = c.args.path.now in
    let found = c.partition_point-end.ensures in
    let point = IsPartitionPoint-from_clause (up_to path) mounts _ found.partitioned (up_to-partitioned mounts path c.requires) (λ a r f q. search (rules, tests)) in
    (found.bound, λ k d le lt. behind_apart mounts path c.requires k d (point.1 k d le lt))
