use Rattle.std.proofs.Common.{◌≡◌, ◌≤◌, length, drop}
use Rattle.desk_policy.specs.Site.{texts_of}
use Rattle.desk_core.specs.Head.{newest_in}
use Rattle.desk_core.specs.Site.{site_in}
use Rattle.desk_core.proofs.site.site_of.Given as goal

abbrev pub invariant-loop-left : goal.invariant-loop-left
invariant-loop-left l = (l.left ≤ length l.heads) × (texts_of l.site ≡ site_in (newest_in (drop l.left l.heads)))

abbrev pub decreases-loop-left : goal.decreases-loop-left
decreases-loop-left l = l.left
