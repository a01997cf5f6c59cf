use Rattle.std.proofs.Common.{◌≡◌, ◌∙◌, List, Option, Result}
use Rattle.desk_text.specs.Lines.{LogicalLine, logical_lines}
use Rattle.desk_tables.specs.declared.filesystems.FsId.{FsId}
use Rattle.desk_exports.specs.Files.{line_says}
use Rattle.desk_exports.specs.Tables.{table_rows}
use Rattle.desk_exports.specs.declared.entry.Entry.{Entry}
use Rattle.desk_exports.specs.declared.rules.Rule.{Rule}
use Rattle.desk_exports.proofs.FaultLemmas.{more_faults, more_placed}
use Rattle.desk_exports.proofs.faults.find_faults.Goals as goal

pub loop-line-preserved : goal.loop-line-preserved
loop-line-preserved c =
    let answer : LogicalLine → Result (Option (FsId × Entry)) Rule = line_says (table_rows c.args.tables.now) c.args.scope in
    let ls : List LogicalLine = c.deref-line-items.result.now in
    let text : ls ≡ logical_lines c.args.text.now = c.deref-line-items.ensures.value ∙ c.in_ok-lines.ensures.lines in
    record {
      faults = more_faults answer ls c.loop-line.line-index c.line-item.result c.loop-line.found c.push_fault.new.found c.loop-line-test.true c.line-item.is c.in_ok-push_fault.ensures c.loop-line.invariant.faults;
      placed = more_placed answer ls c.loop-line.line-index c.line-item.result c.loop-line.found c.push_fault.new.found c.loop-line-test.true c.line-item.is c.in_ok-push_fault.ensures c.args.text.now text c.loop-line.invariant.placed;
    }
