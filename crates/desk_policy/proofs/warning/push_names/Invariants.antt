-- The warnings of the names so far were added.
use Rattle.std.proofs.Common.{◌≡◌, ◌++◌, take}
use Rattle.desk_policy.specs.Warning.{name_kind, word_warnings}
use Rattle.desk_policy.proofs.warning.push_names.Given as goal

abbrev pub invariant-loop-index : goal.invariant-loop-index
invariant-loop-index l = l.warnings ≡ l.initial.warnings ++ word_warnings l.file l.line (λ name. name) (name_kind l.netgroups l.hosts) (take l.index l.names)
