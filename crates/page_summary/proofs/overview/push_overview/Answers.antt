use Rattle.std.proofs.Common.{map}
use Rattle.std.specs.String.{string_bytes}
use Rattle.std.proofs.lemmas.Result.{on_ok_weaker}
use Rattle.page_html.specs.Blocks.{tag_html}
use Rattle.page_html.specs.Tables.{rows_html, short_row_html}
use Rattle.page_html.specs.declared.blocks.Tag.TheVariants.{TableEnd}
use Rattle.page_html.proofs.Gaining.{five_pieces}
use Rattle.page_summary.specs.Overview.{any_cells, cells, legend, overview_frame, overview_start}
use Rattle.page_summary.proofs.overview.push_overview.Goals as goal

pub returns : goal.returns
unfolding legend
returns c =
    on_ok_weaker c.push_tag.result
    (five_pieces (string_bytes c.args.page.now) (string_bytes c.push_fixed.new.page) (string_bytes c.push_table_start.new.page)
    (string_bytes c.push_any.new.page) (string_bytes c.push_rows.new.page) (string_bytes c.push_tag.new.page)
    legend overview_start (short_row_html overview_frame (any_cells c.args.together.now)) (rows_html overview_frame (map cells c.args.rows.now))
    (tag_html TableEnd)
    c.in_ok-push_fixed.ensures c.in_ok-push_table_start.ensures c.in_ok-push_any.ensures c.in_ok-push_rows.ensures)
    c.push_tag.ensures
