use Rattle.std.proofs.Common.{◌++◌, ◌∷◌, ◌∙◌, [], ap, codes, map}
use Rattle.std.proofs.lemmas.Result.{on_ok_weaker}
use Rattle.page_findings.proofs.Gathering.{two_parts}
use Rattle.page_findings.specs.Badges.{measured_items}
use Rattle.page_findings.specs.declared.badges.Measure.TheVariants.{Share}
use Rattle.page_html.specs.Items.{Own, System, Words}
use Rattle.page_html.specs.Parts.{item_of}
use Rattle.page_maps.specs.NetworkCells.{link}
use Rattle.page_maps.proofs.network_cells.push_counted.Goals as goal

pub returns : goal.returns
returns c =
    let one = c.args.one.now in
    let start = map item_of c.args.parts.now.items in
    let begun = map item_of c.push_all.new.parts.items in
    on_ok_weaker c.push_all-2.result
    (λ added. two_parts start begun (map item_of c.push_all-2.new.parts.items)
    (link c.args.policy.now one.fs.0 ∷ Own (Words (codes " ")) ∷ []) (measured_items Share one.counts)
    (c.in_ok-push_all.ensures ∙ ap (λ name. start ++ System one.fs.0 name ∷ Own (Words (codes " ")) ∷ []) c.mount_text.ensures)
    (added ∙ ap (λ items. begun ++ items) (ap (map item_of) c.as_slice.ensures.value ∙ c.in_ok-counts.ensures)))
    c.push_all-2.ensures
