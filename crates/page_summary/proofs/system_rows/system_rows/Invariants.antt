-- The rows of the file systems so far.
use Rattle.page_summary.specs.SiteData.{site_parts}
use Rattle.page_summary.proofs.Rowed.{AreFirstRows}
use Rattle.page_summary.proofs.system_rows.system_rows.Given as goal

abbrev pub invariant-loop-place : goal.invariant-loop-place
invariant-loop-place l = AreFirstRows (site_parts l.site) l.place l.rows.items
