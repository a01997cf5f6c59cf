-- None of the names so far begins with a slash.
use Rattle.std.proofs.Common.{◌≡◌, take, false}
use Rattle.std.specs.List.{list_any}
use Rattle.desk_text.specs.Path.{is_absolute}
use Rattle.desk_exports.proofs.rules.directories.has_late_directory.Given as goal

abbrev pub invariant-loop-index : goal.invariant-loop-index
invariant-loop-index l = list_any is_absolute (take l.index l.names) ≡ false
