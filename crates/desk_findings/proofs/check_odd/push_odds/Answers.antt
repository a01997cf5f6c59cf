-- What is told of the contradictions and warnings is told of all that is odd.
use Rattle.std.proofs.Common.{List, subst}
use Rattle.desk_findings.specs.CheckFaults.{Adds}
use Rattle.desk_findings.specs.CheckOdd.{OddLine, TellInOrder}
use Rattle.desk_findings.proofs.check_odd.push_odds.Goals as goal

pub returns : goal.returns
returns c =
    subst (λ (given : List OddLine). Adds (TellInOrder c.args.source given) c.args.found.now c.push_in_order.new.found) c.in_ok-odds.ensures c.in_ok-push_in_order.ensures
