use Rattle.std.proofs.Common.{◌++◌, ◌∷◌, ◌∙◌, [], ap, codes, map}
use Rattle.std.proofs.lemmas.Result.{on_ok_weaker}
use Rattle.page_html.specs.Items.{Own, Words}
use Rattle.page_html.specs.Parts.{item_of}
use Rattle.page_findings.specs.FindingWords.{flavour_items}
use Rattle.page_findings.proofs.Gathering.{two_parts}
use Rattle.page_findings.proofs.finding_words.push_for_everybody.Goals as goal

pub returns : goal.returns
returns c =
    let one = map item_of c.push_all.new.parts.items in
    on_ok_weaker c.push_flavours.result
    (λ added. two_parts (map item_of c.args.parts.now.items) one (map item_of c.push_flavours.new.parts.items)
    (Own (Words (codes "for everybody, ")) ∷ Own (Words c.args.access.now) ∷ Own (Words (codes ", sec=")) ∷ []) (flavour_items c.args.terms.now.flavours)
    c.in_ok-push_all.ensures
    (added ∙ ap (λ flavours. one ++ flavour_items flavours) c.as_slice.ensures))
    c.push_flavours.ensures
