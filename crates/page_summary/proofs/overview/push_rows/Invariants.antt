-- The ones so far were added.
use Rattle.std.proofs.Common.{◌≡◌, ◌++◌, map, take}
use Rattle.std.specs.List.{flat_map}
use Rattle.std.specs.String.{string_bytes}
use Rattle.page_html.specs.Tables.{row_html}
use Rattle.page_summary.specs.Overview.{cells, overview_frame}
use Rattle.page_summary.proofs.overview.push_rows.Given as goal

abbrev pub invariant-loop-row : goal.invariant-loop-row
invariant-loop-row l = string_bytes l.page ≡ string_bytes l.initial.page ++ flat_map (row_html overview_frame) (map cells (take l.row-index l.rows))
