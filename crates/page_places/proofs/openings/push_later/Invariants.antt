-- Those so far were added.
use Rattle.std.proofs.Common.{◌≡◌, ◌++◌, ◌∷◌, map, take}
use Rattle.std.specs.List.{flat_map}
use Rattle.page_html.specs.Parts.{item_of}
use Rattle.page_findings.specs.Joining.{comma}
use Rattle.page_places.specs.Openings.{opening_items}
use Rattle.page_places.proofs.openings.push_later.Given as goal

abbrev pub invariant-loop-one : goal.invariant-loop-one
invariant-loop-one l =
    map item_of l.parts.items ≡ map item_of l.initial.parts.items ++ flat_map (λ one. comma ∷ opening_items l.fs.0 one) (take l.one-index l.openings)
