-- The spans of the names so far.
use Rattle.std.proofs.Common.{take}
use Rattle.desk_expect.specs.Meaning.{AreMeant}
use Rattle.desk_expect.proofs.meaning.spans_of_names.Given as goal

abbrev pub invariant-loop-name : goal.invariant-loop-name
invariant-loop-name l = AreMeant l.netgroups l.hosts (take l.name-index l.names) l.spans.items
