-- The ones so far were added.
use Rattle.std.proofs.Common.{◌≡◌, ◌++◌, ◌∷◌, map, take}
use Rattle.std.specs.List.{flat_map}
use Rattle.page_html.specs.Parts.{item_of}
use Rattle.page_findings.specs.Badges.{class_items}
use Rattle.page_findings.specs.Joining.{comma}
use Rattle.page_findings.proofs.badges.push_later_classes.Given as goal

abbrev pub invariant-loop-class : goal.invariant-loop-class
invariant-loop-class l =
    map item_of l.parts.items ≡ map item_of l.initial.parts.items
    ++ flat_map (λ class. comma ∷ class_items l.measure l.counts class) (take l.class-index l.classes)
