-- The first such line so far.
use Rattle.std.proofs.Common.{◌≡◌, take}
use Rattle.desk_policy.specs.UnlistedCustodians.{unlisted_line}
use Rattle.desk_policy.proofs.unlisted_custodians.unlisted_line.Given as goal

abbrev pub invariant-loop-mount : goal.invariant-loop-mount
invariant-loop-mount l = l.found ≡ unlisted_line l.custodians (take l.mount-index l.filesystems)
