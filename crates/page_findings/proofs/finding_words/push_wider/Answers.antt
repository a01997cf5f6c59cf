use Rattle.std.proofs.Common.{◌++◌, ◌∷◌, ◌∙◌, [], ap, codes, map}
use Rattle.std.specs.Option.{option_copied}
use Rattle.std.proofs.lemmas.Result.{on_ok_weaker}
use Rattle.page_html.specs.Items.{LineLink, Own, Range, Words}
use Rattle.page_html.specs.Parts.{item_of}
use Rattle.page_findings.specs.FindingWords.{listed, only}
use Rattle.page_findings.proofs.Gathering.{two_parts}
use Rattle.page_findings.proofs.finding_words.push_wider.Goals as goal

pub returns : goal.returns
returns c =
    let found = c.args.found.now in
    let start = map item_of c.args.parts.now.items in
    let one = map item_of c.push_all.new.parts.items in
    on_ok_weaker c.push_all-2.result
    (λ added. two_parts start one (map item_of c.push_all-2.new.parts.items)
    (Own (Words (codes "mountd(8) grants more: to ")) ∷ Own (Range (only found.address)) ∷ Own (Words (codes " ")) ∷ Own (LineLink c.args.fs.0 found.other) ∷ [])
    (listed (option_copied found.directory))
    (c.in_ok-push_all.ensures
    ∙ ap (λ span. start ++ Own (Words (codes "mountd(8) grants more: to ")) ∷ Own (Range span) ∷ Own (Words (codes " ")) ∷ Own (LineLink c.args.fs.0 found.other) ∷ []) c.only.ensures)
    (added ∙ ap (λ more. one ++ more) c.listed.ensures))
    c.push_all-2.ensures
