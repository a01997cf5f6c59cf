-- What holds of the different mount points holds of those that are given.
use Rattle.std.proofs.Common.{◌≡◌, arith, length, subst, sym}
use Rattle.std.specs.List.{All}
use Rattle.desk_text.specs.Path.{IsPath}
use Rattle.desk_mounts.specs.Table.{TooManyBy}
use Rattle.desk_mounts.proofs.Tables.{same_table, too_many}
use Rattle.desk_mounts.proofs.table.table_of.Goals as goal

pub returns-in-Some : goal.returns-in-Some
returns-in-Some c =
    let paths : All IsPath c.different-different.result.items = subst (All IsPath) c.as_slice.ensures.value c.have_components.ensures in
    same_table c.table_is_unique.ensures c.args.mount_points.items c.different-different.result.items paths c.different-different.ensures c.in-Some.filesystems
    (rw c.in-Some.is at c.in_ok-filesystems.ensures.table)

pub returns-in-None : goal.returns-in-None
returns-in-None c =
    let paths : All IsPath c.different-different.result.items = subst (All IsPath) c.as_slice.ensures.value c.have_components.ensures in
    let counted : c.len-count.result ≡ length c.different-different.result.items = omega (arith, c.len-count.ensures, c.different-different.result.ok.0) in
    subst (TooManyBy c.args.mount_points.items) (sym counted)
    (too_many c.table_is_unique.ensures c.args.mount_points.items c.different-different.result.items paths c.different-different.ensures
    (rw c.in-None.is at c.in_ok-filesystems.ensures.table))
