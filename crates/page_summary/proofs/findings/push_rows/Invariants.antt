-- The rows so far were added.
use Rattle.std.proofs.Common.{◌≡◌, ◌++◌, take}
use Rattle.std.specs.List.{flat_map}
use Rattle.std.specs.String.{string_bytes}
use Rattle.page_html.specs.Tables.{frame_of}
use Rattle.page_summary.specs.Findings.{lines_html}
use Rattle.page_summary.proofs.findings.push_rows.Given as goal

abbrev pub invariant-loop-row : goal.invariant-loop-row
invariant-loop-row l = string_bytes l.page ≡ string_bytes l.initial.page ++ flat_map (lines_html (frame_of l.frame)) (take l.row-index l.rows)
