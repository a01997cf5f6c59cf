-- The lines so far.
use Rattle.std.proofs.Common.{◌≡◌, filter, map, take}
use Rattle.desk_policy.specs.UnlistedCustodians.{has_unlisted}
use Rattle.desk_findings.specs.CheckOdd.{odd_at}
use Rattle.desk_findings.specs.CheckSite.{odd_of_unlisted}
use Rattle.desk_findings.proofs.check_site.unlisted.Given as goal

abbrev pub invariant-loop-mount : goal.invariant-loop-mount
invariant-loop-mount l = map odd_at l.odds.items ≡ map (odd_of_unlisted l.custodians) (filter (has_unlisted l.custodians) (take l.mount-index l.mounts))
