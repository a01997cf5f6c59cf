-- The file systems so far, each with which lines decide in it.
use Rattle.std.proofs.Common.{[], map}
use Rattle.page_findings.specs.Deciding.{deciding_value}
use Rattle.page_site.proofs.OfSite.{AreFirst, IsDecidedAt}
use Rattle.page_site.proofs.found_in_site.deciding_of_site.Given as goal

abbrev pub invariant-loop-place : goal.invariant-loop-place
invariant-loop-place l = AreFirst (IsDecidedAt l.policy l.reasons) [] l.place (map deciding_value l.deciding.items)
