-- The fault that is found is told alone, or on its line.
use Rattle.std.proofs.lemmas.Result.{on_ok_weaker}
use Rattle.desk_findings.proofs.OneFaults.{add_on_line, add_same}
use Rattle.desk_findings.proofs.one_fault.push_one_of.Goals as goal

pub returns-in-Some : goal.returns-in-Some
returns-in-Some c =
    on_ok_weaker c.push_line_faults.result
    (add_same c.args.source c.args.fault c.args.faults.now c.in-Some.one.now c.args.found.now c.push_line_faults.new.found c.in-Some.ensures c.requires.placed)
    c.push_line_faults.ensures

pub returns-in-None : goal.returns-in-None
returns-in-None c =
    on_ok_weaker c.push_on_line.result
    (add_on_line c.args.source c.args.fault c.args.faults.now c.args.found.now c.push_on_line.new.found c.in-None.ensures)
    c.push_on_line.ensures
