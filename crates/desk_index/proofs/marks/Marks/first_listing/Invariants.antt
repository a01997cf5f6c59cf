-- No line so far lists the path.
use Rattle.std.proofs.Common.{◌≡◌, None, take}
use Rattle.std.specs.Prelude.{find}
use Rattle.desk_policy.specs.Verdict.{lists_here}
use Rattle.desk_index.specs.PrivateNumbered.{rows_numbered}
use Rattle.desk_index.proofs.marks.Marks.first_listing.Given as goal

abbrev pub invariant-loop-number : goal.invariant-loop-number
invariant-loop-number l = find (lists_here l.path) (rows_numbered l.rows (take l.number-index l.lines)) ≡ None
