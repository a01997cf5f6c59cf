use Rattle.std.proofs.Common.{◌≡◌, subst, List, Option, Result, Ok}
use Rattle.std.proofs.lemmas.Result.{err_from_is_err_and}
use Rattle.desk_text.specs.Lines.{AreNumberedUp, LogicalLine, logical_lines}
use Rattle.desk_tables.specs.declared.filesystems.FsId.{FsId}
use Rattle.desk_exports.specs.Files.{line_says, text_answer}
use Rattle.desk_exports.specs.Laws.{takes_part}
use Rattle.desk_exports.specs.Tables.{table_rows}
use Rattle.desk_exports.specs.declared.entry.Entry.{Entry}
use Rattle.desk_exports.specs.declared.rules.Rule.{Rule}
use Rattle.desk_exports.proofs.AscendingEntries.{found_ascend}
use Rattle.desk_exports.proofs.FileLemmas.{all_found, exit_left, faults_left, found_left, next_left, none_left}
use Rattle.desk_exports.proofs.TextAnswers.{entry_numbers}
use Rattle.desk_exports.proofs.files.read_entries.Goals as goal

pub returns-in_err-push_entry-clause-read : goal.returns-in_err-push_entry-clause-read
returns-in_err-push_entry-clause-read c =
    let answer : LogicalLine → Result (Option (FsId × Entry)) Rule = line_says (table_rows c.args.tables.now) c.args.scope in
    let p = err_from_is_err_and c.from_residual-in_err-push_entry.result c.from_residual-in_err-push_entry.ensures.1 in
    rw (p.1, p.2) (exit_left answer (logical_lines c.args.text.now) c.loop-entries.lines c.next.new.self c.in-Some.line (next_left c.in_ok-line.field-0 c.loop-entries.lines c.next.new.self c.in-Some.line c.in_ok-line.ensures c.in-Some.is) c.in_err-push_entry.field-0.0 c.loop-entries.entries c.push_entry.new.entries
    c.loop-entries.invariant.sound c.in_err-push_entry.ensures)

pub loop-entries-preserved-in_ok-push_entry : goal.loop-entries-preserved-in_ok-push_entry
loop-entries-preserved-in_ok-push_entry c =
    let answer : LogicalLine → Result (Option (FsId × Entry)) Rule = line_says (table_rows c.args.tables.now) c.args.scope in
    let all : List LogicalLine = logical_lines c.args.text.now in
    record {
      sound = faults_left answer all c.loop-entries.lines c.next.new.self c.in-Some.line (next_left c.in_ok-line.field-0 c.loop-entries.lines c.next.new.self c.in-Some.line c.in_ok-line.ensures c.in-Some.is) c.loop-entries.invariant.sound c.in_ok-push_entry.ensures.0;
      read = found_left answer all c.loop-entries.lines c.next.new.self c.in-Some.line (next_left c.in_ok-line.field-0 c.loop-entries.lines c.next.new.self c.in-Some.line c.in_ok-line.ensures c.in-Some.is) c.loop-entries.entries c.push_entry.new.entries c.loop-entries.invariant.read c.in_ok-push_entry.ensures.1;
    }

pub loop-entries-preserved : goal.loop-entries-preserved
loop-entries-preserved c =
    let answer : LogicalLine → Result (Option (FsId × Entry)) Rule = line_says (table_rows c.args.tables.now) c.args.scope in
    let all : List LogicalLine = logical_lines c.args.text.now in
    record {
      sound = faults_left answer all c.loop-entries.lines c.next.new.self c.in-Some.line (next_left c.in_ok-line.field-0 c.loop-entries.lines c.next.new.self c.in-Some.line c.in_ok-line.ensures c.in-Some.is) c.loop-entries.invariant.sound c.in_ok-push_entry.ensures.0;
      read = found_left answer all c.loop-entries.lines c.next.new.self c.in-Some.line (next_left c.in_ok-line.field-0 c.loop-entries.lines c.next.new.self c.in-Some.line c.in_ok-line.ensures c.in-Some.is) c.loop-entries.entries c.push_entry.new.entries c.loop-entries.invariant.read c.in_ok-push_entry.ensures.1;
    }

pub returns-clause-read : goal.returns-clause-read
returns-clause-read c =
    let answer : LogicalLine → Result (Option (FsId × Entry)) Rule = line_says (table_rows c.args.tables.now) c.args.scope in
    all_found answer (logical_lines c.args.text.now) c.loop-entries.lines c.loop-entries.entries (none_left c.in_ok-line.field-0 c.loop-entries.lines c.next.new.self c.in_ok-line.ensures c.in_default.is) c.loop-entries.invariant.sound c.loop-entries.invariant.read

pub returns-clause-ascending : goal.returns-clause-ascending
returns-clause-ascending c =
    let answer : LogicalLine → Result (Option (FsId × Entry)) Rule = line_says (table_rows c.args.tables.now) c.args.scope in
    let spells : text_answer (table_rows c.args.tables.now) c.args.scope c.args.text.now ≡ Ok c.loop-entries.entries =
    all_found answer (logical_lines c.args.text.now) c.loop-entries.lines c.loop-entries.entries (none_left c.in_ok-line.field-0 c.loop-entries.lines c.next.new.self c.in_ok-line.ensures c.in_default.is) c.loop-entries.invariant.sound c.loop-entries.invariant.read in
    found_ascend (λ (placed : FsId × Entry). placed.1.line) takes_part c.loop-entries.entries (logical_lines c.args.text.now) (entry_numbers (table_rows c.args.tables.now) c.args.scope c.args.text.now c.loop-entries.entries spells)
    (subst AreNumberedUp c.new-lines.ensures.lines c.new-lines.ensures.ascending)
