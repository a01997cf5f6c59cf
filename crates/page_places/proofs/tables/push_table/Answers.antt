use Rattle.std.proofs.Common.{List, ◌++◌, ◌∙◌, ap, map, sym}
use Rattle.std.specs.String.{string_bytes}
use Rattle.std.proofs.lemmas.Result.{on_ok_weaker}
use Rattle.page_data.specs.declared.rows.TableRow.{TableRow}
use Rattle.page_html.proofs.Gaining.{four_pieces}
use Rattle.page_html.specs.Blocks.{tag_html}
use Rattle.page_html.specs.Tables.{rows_html, table_start}
use Rattle.page_html.specs.Titles.{titles_of}
use Rattle.page_html.specs.declared.blocks.Tag.TheVariants.{TableEnd}
use Rattle.page_places.specs.Names.{caption, members_value}
use Rattle.page_places.specs.Rows.{cells, row_value, verdict_frame}
use Rattle.page_places.specs.Tables.{others_of, others_text}
use Rattle.page_places.proofs.Sized.{in_two_steps}
use Rattle.page_places.proofs.tables.push_table.Goals as goal

pub returns : goal.returns
returns c =
    let fs = c.args.fs.0 in
    let start = string_bytes c.args.page.now in
    let begun = string_bytes c.push_table_start.new.page in
    let members = members_value c.args.members.now in
    let rows = c.args.table.now.rows in
    on_ok_weaker c.push_tag.result
    (four_pieces start begun (string_bytes c.push_rows.new.page) (string_bytes c.push_others.new.page) (string_bytes c.push_tag.new.page)
    (table_start verdict_frame (caption members)) (rows_html verdict_frame (map (cells fs) (map row_value rows)))
    (others_text (others_of c.args.table.now)) (tag_html TableEnd)
    (c.in_ok-push_table_start.ensures ∙ ap (λ title. start ++ table_start verdict_frame title)
    (ap titles_of c.as_slice.ensures.value ∙ c.in_ok-caption.ensures))
    (c.in_ok-push_rows.ensures
    ∙ ap (λ (some : List TableRow). begun ++ rows_html verdict_frame (map (λ (row : TableRow). cells fs (row_value row)) some)) c.as_slice-2.ensures
    ∙ ap (λ some. begun ++ rows_html verdict_frame some) (sym (in_two_steps (cells fs) row_value rows)))
    c.in_ok-push_others.ensures)
    c.push_tag.ensures
