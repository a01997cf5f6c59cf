use Rattle.std.proofs.Common.{◌≡◌, ◌∙◌, List, ap}
use Rattle.std.proofs.lemmas.List.{take_all}
use Rattle.desk_text.specs.Lines.{LogicalLine, logical_lines}
use Rattle.desk_expect.specs.FaultyLines.{faults_of}
use Rattle.desk_expect.proofs.FaultyLines.{more_faults, more_placed}
use Rattle.desk_expect.proofs.faulty_lines.find_faults.Goals as goal

pub loop-line-preserved : goal.loop-line-preserved
loop-line-preserved c =
    let ls : List LogicalLine = c.deref-line-items.result.now in
    let text : ls ≡ logical_lines c.args.text.now = c.deref-line-items.ensures.value ∙ c.in_ok-lines.ensures.lines in
    record {
      faults = more_faults c.args.netgroups.now c.args.hosts.now ls c.loop-line.line-index c.line-item.result c.loop-line.found c.push_fault.new.found c.loop-line-test.true c.line-item.is c.in_ok-push_fault.ensures c.loop-line.invariant.faults;
      placed = more_placed c.args.netgroups.now c.args.hosts.now ls c.loop-line.line-index c.line-item.result c.loop-line.found c.push_fault.new.found c.loop-line-test.true c.line-item.is c.in_ok-push_fault.ensures c.args.text.now text c.loop-line.invariant.placed;
    }

pub returns : goal.returns
returns c =
    let ls : List LogicalLine = c.deref-line-items.result.now in
    let text : ls ≡ logical_lines c.args.text.now = c.deref-line-items.ensures.value ∙ c.in_ok-lines.ensures.lines in
    record {
      faults = c.loop-line.invariant.faults ∙ ap (faults_of c.args.netgroups.now c.args.hosts.now) (take_all c.loop-line.line-index ls c.loop-line-test.false ∙ text);
      placed = c.loop-line.invariant.placed;
    }
