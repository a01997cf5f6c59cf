-- The ones so far were added.
use Rattle.std.proofs.Common.{◌≡◌, ◌++◌, ◌∷◌, map, take}
use Rattle.std.specs.List.{flat_map}
use Rattle.page_html.specs.Items.{Break, Own}
use Rattle.page_html.specs.Parts.{item_of}
use Rattle.page_summary.specs.Findings.{place, row_value}
use Rattle.page_summary.proofs.finding_cells.push_later_places.Given as goal

abbrev pub invariant-loop-line : goal.invariant-loop-line
invariant-loop-line l = map item_of l.parts.items ≡ map item_of l.initial.parts.items ++ flat_map (λ line. Own Break ∷ place line) (map row_value (take l.line-index l.lines))
