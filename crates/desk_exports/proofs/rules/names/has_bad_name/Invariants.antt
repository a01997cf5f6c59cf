-- None of the names so far is a bad one.
use Rattle.std.proofs.Common.{◌≡◌, take, false}
use Rattle.std.specs.List.{list_any}
use Rattle.desk_exports.specs.Rules.{is_bad_name}
use Rattle.desk_exports.proofs.rules.names.has_bad_name.Given as goal

abbrev pub invariant-loop-index : goal.invariant-loop-index
invariant-loop-index l = list_any is_bad_name (take l.index l.names) ≡ false
