-- What the server does otherwise of the file systems so far.
use Rattle.page_findings.proofs.Serving.{AreServerOfFirst}
use Rattle.page_findings.proofs.server.server_of_site.Given as goal

abbrev pub invariant-loop-place : goal.invariant-loop-place
invariant-loop-place l = AreServerOfFirst l.index l.place l.found.items
