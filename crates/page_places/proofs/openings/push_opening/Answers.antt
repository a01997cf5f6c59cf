use Rattle.std.proofs.Common.{◌++◌, ◌∷◌, ◌∙◌, [], ap, codes, map}
use Rattle.page_findings.proofs.Gathering.{all_more}
use Rattle.page_html.specs.Items.{LineLink, Own, Range, Words}
use Rattle.page_html.specs.Parts.{item_of}
use Rattle.page_places.proofs.openings.push_opening.Goals as goal

pub returns : goal.returns
returns c =
    let one = c.args.one.now in
    let fs = c.args.fs.0 in
    all_more item_of c.args.parts.now.items c.extend_from_slice.new.self.items _ c.in_ok-extend_from_slice.ensures.items
    ∙ ap (λ place. map item_of c.args.parts.now.items ++ place ∷ Own (Words (codes " to ")) ∷ Own (Range (record { first = one.address; last = one.address }))
    ∷ Own (Words (codes " by ")) ∷ Own (LineLink fs one.line) ∷ Own (Words (codes " (denied here by ")) ∷ Own (LineLink fs one.denied)
    ∷ Own (Words (codes ")")) ∷ []) c.place_part.ensures
