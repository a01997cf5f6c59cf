-- What is found has its slice.
use Rattle.std.proofs.Common.{List, subst}
use Rattle.desk_findings.specs.CheckFaults.{Adds}
use Rattle.desk_findings.specs.OneSiteFault.{TellLine}
use Rattle.desk_findings.specs.declared.finding.Finding.{Finding}
use Rattle.desk_findings.proofs.OneFaults.{line_slices}
use Rattle.desk_findings.proofs.one_site_fault.find_line_fault.Goals as goal

pub returns-clause-slices : goal.returns-clause-slices
returns-clause-slices c =
    line_slices c.args.profile c.args.sources c.args.fault c.push_of_line.new.found
    (subst (λ (old : List Finding). Adds (TellLine c.args.profile c.args.sources c.args.fault) old c.push_of_line.new.found) c.new-found.ensures c.in_ok-push_of_line.ensures)
