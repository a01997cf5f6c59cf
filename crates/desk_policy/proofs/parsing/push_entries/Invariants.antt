-- The warnings of the entries so far.
use Rattle.std.proofs.Common.{◌≡◌, ◌++◌, take}
use Rattle.std.specs.List.{flat_map}
use Rattle.desk_policy.specs.Warning.{entry_warnings}
use Rattle.desk_policy.proofs.parsing.push_entries.Given as goal

abbrev pub invariant-loop-entry : goal.invariant-loop-entry
invariant-loop-entry l = l.warnings ≡ l.initial.warnings ++ flat_map (entry_warnings l.site_tables.netgroups l.site_tables.hosts l.name) (take l.entry-index l.entries)
