use Rattle.std.proofs.Common.{◌++◌, ◌∷◌, ◌∙◌, [], ap, codes, map, refl}
use Rattle.std.proofs.lemmas.List.{map-append}
use Rattle.page_findings.specs.Badges.{level_item}
use Rattle.page_findings.specs.FindingWords.{finding_items, finding_value}
use Rattle.page_html.specs.Items.{LineLink, Own, Words}
use Rattle.page_html.specs.Parts.{item_of}
use Rattle.page_html.proofs.Gathered.{cell_before}
use Rattle.page_filesystem.proofs.findings.entry_parts.Goals as goal

pub returns : goal.returns
returns c =
    let finding = finding_value c.args.finding.now in
    let words = finding_items finding in
    let start = Own (Words (codes " ")) ∷ Own (LineLink finding.fs finding.line) ∷ Own (Words (codes ": ")) ∷ [] in
    ap (map item_of) c.in_ok-extend_from_slice.ensures.items ∙ map-append item_of c.in_ok-parts.parts.items c.as_slice.result.now
    ∙ ap (λ ys. map item_of c.in_ok-parts.parts.items ++ ys) (ap (map item_of) c.as_slice.ensures.value ∙ c.in_ok-words.ensures)
    ∙ ap (λ ys. map item_of ys ++ words) c.in_ok-parts.ensures.items
    ∙ ap (λ ys. ys ++ words) (cell_before (item_of c.level_part.result) (level_item finding.level) start start (c.level_part.ensures ∙ ap level_item c.level.ensures) refl)
