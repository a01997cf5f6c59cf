use Rattle.std.proofs.Common.{[], ◌∷◌}
use Rattle.std.specs.List.{flat_map}
use Rattle.std.specs.String.{string_bytes}
use Rattle.std.proofs.lemmas.Result.{on_ok_weaker}
use Rattle.page_html.specs.Blocks.{tag_html}
use Rattle.page_html.specs.Tables.{frame_of, table_start}
use Rattle.page_html.specs.Titles.{Said}
use Rattle.page_html.specs.declared.blocks.Tag.TheVariants.{TableEnd}
use Rattle.page_html.proofs.Gaining.{three_pieces}
use Rattle.page_summary.specs.Findings.{lines_html}
use Rattle.page_summary.proofs.findings.push_table.Goals as goal

pub returns : goal.returns
returns c =
    let frame = frame_of c.args.frame.now in
    on_ok_weaker c.push_tag.result
    (three_pieces (string_bytes c.args.page.now) (string_bytes c.push_table_start.new.page) (string_bytes c.push_rows.new.page) (string_bytes c.push_tag.new.page)
    (table_start frame (Said c.args.title.now ∷ [])) (flat_map (lines_html frame) c.args.rows.now) (tag_html TableEnd)
    c.in_ok-push_table_start.ensures c.in_ok-push_rows.ensures)
    c.push_tag.ensures
