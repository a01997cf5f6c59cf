-- The rows of the warnings so far.
use Rattle.std.proofs.Common.{◌≡◌, map, take}
use Rattle.page_lists.specs.Warnings.{row_of, row_value}
use Rattle.page_lists.proofs.warnings.warning_rows.Given as goal

abbrev pub invariant-loop-warning : goal.invariant-loop-warning
invariant-loop-warning l = map row_value l.rows.items ≡ map (row_of l.filesystems) (take l.warning-index l.warnings)
