-- The rows so far were added.
use Rattle.std.proofs.Common.{◌≡◌, ◌++◌, map, take}
use Rattle.std.specs.List.{flat_map}
use Rattle.std.specs.String.{string_bytes}
use Rattle.page_html.specs.Tables.{row_html}
use Rattle.page_filesystem.specs.Shares.{cells, frame}
use Rattle.page_filesystem.proofs.shares.push_share_rows.Given as goal

abbrev pub invariant-loop-share : goal.invariant-loop-share
invariant-loop-share l = string_bytes l.page ≡ string_bytes l.initial.page ++ flat_map (row_html frame) (map cells (take l.share-index l.shares))
