use Rattle.std.proofs.Common.{take}
use Rattle.std.specs.List.{AllPairs}
use Rattle.desk_store.proofs.PendingOnce.{Apart}
use Rattle.desk_store.proofs.pending_proposals.stand_once.Given as goal

abbrev pub invariant-loop-place : goal.invariant-loop-place
invariant-loop-place l = AllPairs Apart (take l.place l.proposals)
