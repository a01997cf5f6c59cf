-- What is counted on the file systems so far.
use Rattle.page_maps.proofs.Counting.{AreCountsOfFirst}
use Rattle.page_maps.proofs.networks.counts_of.Given as goal

abbrev pub invariant-loop-place : goal.invariant-loop-place
invariant-loop-place l = AreCountsOfFirst l.policy l.network l.place l.counted.items
