-- The revisions so far are copied.
use Rattle.std.proofs.Common.{◌≡◌, map, take}
use Rattle.desk_service.specs.ReadableByInit.{second}
use Rattle.desk_service.proofs.readable_by_init.copies_by_second.Given as goal

abbrev pub invariant-loop-head : goal.invariant-loop-head
invariant-loop-head l = l.copies.items ≡ map second (take l.head-index l.heads)
