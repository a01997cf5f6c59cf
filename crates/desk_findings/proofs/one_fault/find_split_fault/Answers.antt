-- What is found has its slices.
use Rattle.std.proofs.Common.{List, subst}
use Rattle.desk_findings.specs.CheckFaults.{Adds}
use Rattle.desk_findings.specs.OneFault.{TellSplit}
use Rattle.desk_findings.specs.declared.finding.Finding.{Finding}
use Rattle.desk_findings.proofs.OneFaults.{split_slices}
use Rattle.desk_findings.proofs.one_fault.find_split_fault.Goals as goal

pub returns-clause-slices : goal.returns-clause-slices
returns-clause-slices c =
    split_slices c.args.file c.args.filesystems c.args.fault c.push_split.new.found
    (subst (λ (old : List Finding). Adds (TellSplit c.args.file c.args.filesystems c.args.fault) old c.push_split.new.found) c.new-found.ensures c.in_ok-push_split.ensures)
