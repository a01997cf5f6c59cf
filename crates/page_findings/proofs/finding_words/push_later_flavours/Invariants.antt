-- The ones so far were added.
use Rattle.std.proofs.Common.{◌≡◌, ◌++◌, ◌∷◌, map, take}
use Rattle.std.specs.List.{flat_map}
use Rattle.page_html.specs.Parts.{item_of}
use Rattle.page_findings.specs.FindingWords.{colon, flavour_item}
use Rattle.page_findings.proofs.finding_words.push_later_flavours.Given as goal

abbrev pub invariant-loop-flavour : goal.invariant-loop-flavour
invariant-loop-flavour l =
    map item_of l.parts.items ≡ map item_of l.initial.parts.items ++ flat_map (λ flavour. colon ∷ flavour_item flavour) (take l.flavour-index l.flavours)
