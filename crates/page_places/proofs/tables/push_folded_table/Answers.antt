use Rattle.std.proofs.Common.{◌++◌, ◌∙◌, ap, map}
use Rattle.std.specs.String.{string_bytes}
use Rattle.std.proofs.lemmas.Result.{on_ok_weaker}
use Rattle.page_html.proofs.Gaining.{three_pieces}
use Rattle.page_html.specs.Blocks.{element_html, tag_html}
use Rattle.page_html.specs.declared.blocks.Element.TheVariants.{Fold}
use Rattle.page_html.specs.declared.blocks.Tag.TheVariants.{FoldEnd}
use Rattle.page_places.specs.Names.{members_value}
use Rattle.page_places.specs.Rows.{row_value}
use Rattle.page_places.specs.Tables.{granting, table, table_summary, told_value}
use Rattle.page_places.proofs.tables.push_folded_table.Goals as goal

pub returns : goal.returns
returns c =
    let start = string_bytes c.args.page.now in
    let told = told_value c.args.table.now in
    on_ok_weaker c.push_tag.result
    (three_pieces start (string_bytes c.push_element.new.page) (string_bytes c.push_table.new.page) (string_bytes c.push_tag.new.page)
    (element_html Fold (table_summary (granting told.rows))) (table c.args.fs.0 (members_value c.args.members.now) told) (tag_html FoldEnd)
    (c.in_ok-push_element.ensures ∙ ap (λ n. start ++ element_html Fold (table_summary n))
    (c.granting-count.ensures ∙ ap (λ rows. granting (map row_value rows)) c.as_slice.ensures)) c.in_ok-push_table.ensures)
    c.push_tag.ensures
