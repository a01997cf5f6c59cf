-- What is added so far.
use Rattle.std.proofs.Common.{◌≡◌, ◌++◌, List, filter, take}
use Rattle.std.specs.List.{flat_map}
use Rattle.desk_policy.specs.declared.row.Row.{Row}
use Rattle.desk_remarks.specs.EntryRemarks.{entry_remarks}
use Rattle.desk_remarks.specs.PrivateUnwarnedLines.{is_outside}
use Rattle.desk_remarks.proofs.remarks.push_files.Given as goal

abbrev pub invariant-loop-rows : goal.invariant-loop-rows
invariant-loop-rows l =
    l.found ≡ l.initial.found ++ flat_map (λ (rows : List Row). flat_map (λ (row : Row). filter (is_outside l.warned) (entry_remarks l.opinions row.entry)) rows) (take l.rows-index l.files)
