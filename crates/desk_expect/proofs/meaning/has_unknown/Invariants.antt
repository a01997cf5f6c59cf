-- The names so far are known.
use Rattle.std.proofs.Common.{◌≡◌, false, take}
use Rattle.std.specs.List.{list_any}
use Rattle.desk_expect.specs.Meaning.{is_unknown}
use Rattle.desk_expect.proofs.meaning.has_unknown.Given as goal

abbrev pub invariant-loop-name : goal.invariant-loop-name
invariant-loop-name l = list_any (is_unknown l.netgroups l.hosts) (take l.name-index l.names) ≡ false
