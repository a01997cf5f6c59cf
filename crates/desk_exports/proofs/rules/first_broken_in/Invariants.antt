-- The line breaks no rule of the groups so far.
use Rattle.std.proofs.Common.{◌≡◌, None, find, map, take}
use Rattle.desk_exports.specs.PrivateRules.{asked, group_of}
use Rattle.desk_exports.specs.Rules.{breaks}
use Rattle.desk_exports.specs.Tables.{table_rows}
use Rattle.desk_exports.proofs.rules.first_broken_in.Given as goal

abbrev pub invariant-loop-group : goal.invariant-loop-group
invariant-loop-group l = find (breaks (table_rows l.tables) l.own_fs l.line) (asked l.has (map group_of (take l.group-index l.groups))) ≡ None
