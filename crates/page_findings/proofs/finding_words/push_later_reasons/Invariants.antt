-- The ones so far were added.
use Rattle.std.proofs.Common.{◌≡◌, ◌++◌, ◌∷◌, map, take}
use Rattle.std.specs.List.{flat_map}
use Rattle.page_html.specs.Parts.{item_of}
use Rattle.page_findings.specs.FindingWords.{finding_value, reason_items}
use Rattle.page_findings.specs.Joining.{comma}
use Rattle.page_findings.proofs.finding_words.push_later_reasons.Given as goal

abbrev pub invariant-loop-reason : goal.invariant-loop-reason
invariant-loop-reason l =
    map item_of l.parts.items ≡ map item_of l.initial.parts.items
    ++ flat_map (λ reason. comma ∷ reason_items (finding_value l.finding) reason) (take l.reason-index l.reasons)
