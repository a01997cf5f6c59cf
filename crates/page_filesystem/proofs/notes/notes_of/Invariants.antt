-- The notes on the lines so far, and on those that are left.
use Rattle.std.proofs.Common.{◌≡◌, ◌++◌, length, map}
use Rattle.std.specs.List.{filter_map}
use Rattle.desk_text.specs.Lines.{logical_lines}
use Rattle.page_findings.specs.Lines.{line_value}
use Rattle.page_filesystem.specs.Notes.{logical_line_note}
use Rattle.page_filesystem.proofs.notes.notes_of.Given as goal

abbrev pub invariant-loop-notes : goal.invariant-loop-notes
invariant-loop-notes l = record {
  read : l.notes.items ++ filter_map (logical_line_note (map line_value l.lines)) l.left ≡ filter_map (logical_line_note (map line_value l.lines)) (logical_lines l.text);
}

abbrev pub decreases-loop-notes : goal.decreases-loop-notes
decreases-loop-notes l = length l.left
