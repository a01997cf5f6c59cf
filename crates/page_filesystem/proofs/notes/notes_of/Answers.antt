use Rattle.std.proofs.Common.{◌≡◌, map, subst}
use Rattle.desk_text.specs.Lines.{AreNumberedUp, logical_lines}
use Rattle.desk_exports.proofs.FileLemmas.{next_left, none_left}
use Rattle.page_findings.specs.Lines.{line_value}
use Rattle.page_filesystem.specs.Notes.{logical_line_note, notes_of}
use Rattle.page_filesystem.proofs.Noted.{found_all, found_more, notes_ascend}
use Rattle.page_filesystem.proofs.notes.notes_of.Goals as goal

pub loop-notes-preserved-in_ok-push_note : goal.loop-notes-preserved-in_ok-push_note
loop-notes-preserved-in_ok-push_note c =
    let left = next_left c.in_ok-line.field-0 c.loop-notes.left c.next.new.self c.in-Some.line c.in_ok-line.ensures c.in-Some.is in
    record {
      read = found_more (logical_line_note (map line_value c.args.lines.now)) (logical_lines c.args.text.now) c.loop-notes.left c.next.new.self c.in-Some.line
          c.loop-notes.notes.items c.push_note.new.notes.items left c.loop-notes.invariant.read c.in_ok-push_note.ensures;
    }

pub loop-notes-preserved : goal.loop-notes-preserved
loop-notes-preserved c =
    let left = next_left c.in_ok-line.field-0 c.loop-notes.left c.next.new.self c.in-Some.line c.in_ok-line.ensures c.in-Some.is in
    record {
      read = found_more (logical_line_note (map line_value c.args.lines.now)) (logical_lines c.args.text.now) c.loop-notes.left c.next.new.self c.in-Some.line
          c.loop-notes.notes.items c.push_note.new.notes.items left c.loop-notes.invariant.read c.in_ok-push_note.ensures;
    }

pub returns-clause-notes : goal.returns-clause-notes
returns-clause-notes c =
    let none = none_left c.in_ok-line.field-0 c.loop-notes.left c.next.new.self c.in_ok-line.ensures c.in_default.is in
    found_all (logical_line_note (map line_value c.args.lines.now)) (logical_lines c.args.text.now) c.loop-notes.left c.loop-notes.notes.items none c.loop-notes.invariant.read

pub returns-clause-ascending : goal.returns-clause-ascending
returns-clause-ascending c =
    let none = none_left c.in_ok-line.field-0 c.loop-notes.left c.next.new.self c.in_ok-line.ensures c.in_default.is in
    let are : c.loop-notes.notes.items ≡ notes_of (map line_value c.args.lines.now) c.args.text.now =
    found_all (logical_line_note (map line_value c.args.lines.now)) (logical_lines c.args.text.now) c.loop-notes.left c.loop-notes.notes.items none c.loop-notes.invariant.read in
    notes_ascend (map line_value c.args.lines.now) c.args.text.now c.loop-notes.notes.items are (subst AreNumberedUp c.new-left.ensures.lines c.new-left.ensures.ascending)
