-- The names so far were added.
use Rattle.std.proofs.Common.{◌≡◌, ◌++◌, map, take}
use Rattle.page_html.specs.Items.{Code}
use Rattle.page_html.specs.Parts.{item_of}
use Rattle.page_summary.proofs.shared_rows.push_names.Given as goal

abbrev pub invariant-loop-index : goal.invariant-loop-index
invariant-loop-index l = map item_of l.parts.items ≡ map item_of l.initial.parts.items ++ map Code (take l.index l.names)
