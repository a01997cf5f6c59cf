-- The ones so far were added.
use Rattle.std.proofs.Common.{◌≡◌, ◌++◌, ◌∷◌, map, take}
use Rattle.std.specs.List.{flat_map}
use Rattle.page_html.specs.Parts.{item_of}
use Rattle.page_maps.specs.NetworkCells.{alike, semicolon}
use Rattle.page_maps.proofs.network_cells.push_later_alike.Given as goal

abbrev pub invariant-loop-one : goal.invariant-loop-one
invariant-loop-one l =
    map item_of l.parts.items ≡ map item_of l.initial.parts.items ++ flat_map (λ one. semicolon ∷ alike l.policy one) (take l.one-index l.ones)
