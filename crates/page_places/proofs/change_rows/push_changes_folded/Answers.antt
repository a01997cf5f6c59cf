use Rattle.std.proofs.Common.{[], ◌∷◌, codes, length}
use Rattle.std.specs.String.{string_bytes}
use Rattle.std.proofs.lemmas.Result.{on_ok_weaker}
use Rattle.page_html.proofs.Gaining.{three_pieces}
use Rattle.page_html.specs.Blocks.{element_html, tag_html}
use Rattle.page_html.specs.Items.{Own, Plural}
use Rattle.page_html.specs.declared.blocks.Element.TheVariants.{Fold}
use Rattle.page_html.specs.declared.blocks.Tag.TheVariants.{FoldEnd}
use Rattle.page_places.specs.ChangeRows.{change_table}
use Rattle.page_places.proofs.change_rows.push_changes_folded.Goals as goal

pub returns : goal.returns
returns c =
    on_ok_weaker c.push_tag.result
    (three_pieces (string_bytes c.args.page.now) (string_bytes c.push_element.new.page) (string_bytes c.push_change_table.new.page)
    (string_bytes c.push_tag.new.page) (element_html Fold (Own (Plural (length c.args.rows.now) (codes "change") (codes "changes")) ∷ []))
    (change_table c.args.rows.now) (tag_html FoldEnd) c.in_ok-push_element.ensures c.in_ok-push_change_table.ensures)
    c.push_tag.ensures
