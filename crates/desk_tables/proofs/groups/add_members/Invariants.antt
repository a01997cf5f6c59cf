-- The members so far are added.
use Rattle.std.proofs.Common.{take}
use Rattle.desk_tables.specs.PrivateIndex.{AddsUnderEach}
use Rattle.desk_tables.proofs.groups.add_members.Given as goal

abbrev pub invariant-loop-member : goal.invariant-loop-member
invariant-loop-member l = AddsUnderEach (λ name. name) l.fn.index l.index (take l.member-index l.members) l.gid
