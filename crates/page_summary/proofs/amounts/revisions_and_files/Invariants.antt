-- The revisions of the files so far.
use Rattle.std.proofs.Common.{◌≡◌, take}
use Rattle.page_summary.specs.Amounts.{revisions_of}
use Rattle.page_summary.proofs.amounts.revisions_and_files.Given as goal

abbrev pub invariant-loop-head : goal.invariant-loop-head
invariant-loop-head l = l.revisions ≡ revisions_of (take l.head-index l.heads)
