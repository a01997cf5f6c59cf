use Rattle.std.proofs.Common.{◌++◌, ◌∷◌, ◌∙◌, [], ap, eqb, map, sym}
use Rattle.std.proofs.lemmas.Bool.{cond-false, ne_eqb}
use Rattle.std.proofs.lemmas.Result.{on_ok_weaker}
use Rattle.std.specs.Prelude.{codes}
use Rattle.page_html.specs.Items.{Own, Plural}
use Rattle.page_html.specs.Parts.{item_of}
use Rattle.page_maps.proofs.network_cells.push_more.Goals as goal

pub returns : goal.returns
returns c =
    let count = c.args.count in
    let more = item_of c.args.between ∷ Own (Plural count (codes "more file system") (codes "more file systems")) ∷ [] in
    on_ok_weaker c.push_all.result
    (λ added. added ∙ ap (λ items. map item_of c.args.parts.now.items ++ items)
    (sym (cond-false (eqb count 0) [] more (ne_eqb count 0 c.if-count-eq0.false))))
    c.push_all.ensures
