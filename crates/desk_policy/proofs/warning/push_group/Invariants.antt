-- The warnings of the members so far were added.
use Rattle.std.proofs.Common.{◌≡◌, ◌++◌, take}
use Rattle.std.specs.Prelude.{codes}
use Rattle.desk_policy.specs.Warning.{member_kind, member_word, word_warnings}
use Rattle.desk_policy.proofs.warning.push_group.Given as goal

abbrev pub invariant-loop-index : goal.invariant-loop-index
invariant-loop-index l =
    l.warnings ≡ l.initial.warnings ++ word_warnings (codes "netgroup") l.line.line member_word (member_kind l.netgroups l.hosts) (take l.index l.line.members)
