-- What is found has its slice.
use Rattle.std.proofs.Common.{List, map, subst}
use Rattle.desk_findings.specs.CheckFaults.{Adds}
use Rattle.desk_findings.specs.CheckOdd.{TellInOrder, odd_at}
use Rattle.desk_findings.specs.declared.finding.Finding.{Finding}
use Rattle.desk_findings.proofs.OneFaults.{odds_slices}
use Rattle.desk_findings.proofs.one_site_fault.find_contradiction.Goals as goal

pub returns-clause-slices : goal.returns-clause-slices
returns-clause-slices c =
    odds_slices c.args.source (map odd_at c.push.new.self.items) c.push_in_order.new.found
    (subst (λ (old : List Finding). Adds (TellInOrder c.args.source (map odd_at c.push.new.self.items)) old c.push_in_order.new.found) c.new-found.ensures c.in_ok-push_in_order.ensures)
