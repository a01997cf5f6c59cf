use Rattle.std.proofs.Common.{[], ◌∷◌, codes, map}
use Rattle.std.specs.String.{string_bytes}
use Rattle.std.proofs.lemmas.Result.{on_ok_weaker}
use Rattle.page_html.specs.Blocks.{tag_html}
use Rattle.page_html.specs.Tables.{rows_html, table_start}
use Rattle.page_html.specs.Titles.{Said}
use Rattle.page_html.specs.declared.blocks.Tag.TheVariants.{TableEnd}
use Rattle.page_html.proofs.Gaining.{three_pieces}
use Rattle.page_summary.specs.FlavoursTable.{flavours_frame, row_cells}
use Rattle.page_summary.proofs.flavours.push_flavours_table.Goals as goal

pub returns : goal.returns
returns c =
    on_ok_weaker c.push_tag.result
    (three_pieces (string_bytes c.args.page.now) (string_bytes c.push_table_start.new.page) (string_bytes c.push_rows.new.page)
    (string_bytes c.push_tag.new.page)
    (table_start flavours_frame (Said (codes "Security flavours of the lines that grant") ∷ [])) (rows_html flavours_frame (map row_cells c.args.rows.now))
    (tag_html TableEnd) c.in_ok-push_table_start.ensures c.in_ok-push_rows.ensures)
    c.push_tag.ensures
