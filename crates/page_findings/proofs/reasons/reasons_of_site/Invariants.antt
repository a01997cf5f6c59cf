-- Why the lines of the file systems so far stand out.
use Rattle.page_findings.proofs.Telling.{AreReasonsOfFirst}
use Rattle.page_findings.proofs.reasons.reasons_of_site.Given as goal

abbrev pub invariant-loop-place : goal.invariant-loop-place
invariant-loop-place l = AreReasonsOfFirst l.policy l.place l.reasons.items
