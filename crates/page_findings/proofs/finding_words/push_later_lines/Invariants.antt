-- The ones so far were added.
use Rattle.std.proofs.Common.{◌≡◌, ◌++◌, ◌∷◌, map, take}
use Rattle.std.specs.List.{flat_map}
use Rattle.page_html.specs.Parts.{item_of}
use Rattle.page_findings.specs.FindingWords.{line_item}
use Rattle.page_findings.specs.Joining.{comma}
use Rattle.page_findings.proofs.finding_words.push_later_lines.Given as goal

abbrev pub invariant-loop-line : goal.invariant-loop-line
invariant-loop-line l =
    map item_of l.parts.items ≡ map item_of l.initial.parts.items ++ flat_map (λ line. comma ∷ line_item l.fs.0 line) (take l.line-index l.lines)
