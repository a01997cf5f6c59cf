use Rattle.std.proofs.Common.{[], ◌∷◌, codes, map}
use Rattle.std.specs.String.{string_bytes}
use Rattle.page_html.proofs.Gaining.{five_pieces}
use Rattle.page_html.specs.Blocks.{element_html, tag_html}
use Rattle.page_html.specs.Tables.{rows_html, table_start}
use Rattle.page_html.specs.Titles.{Said}
use Rattle.page_html.specs.declared.blocks.Element.TheVariants.{Paragraph}
use Rattle.page_html.specs.declared.blocks.Tag.TheVariants.{TableEnd}
use Rattle.page_maps.specs.NetworkTable.{cells, frame, left_out, told}
use Rattle.page_maps.proofs.network_table.push_some_networks.Goals as goal

pub returns : goal.returns
returns c =
    five_pieces (string_bytes c.args.page.now) (string_bytes c.push_element.new.page) (string_bytes c.push_table_start.new.page)
    (string_bytes c.push_rows.new.page) (string_bytes c.push_tag.new.page) (string_bytes c.push_left_out.new.page)
    (element_html Paragraph (told ∷ [])) (table_start frame (Said (codes "What the networks may mount that lines write") ∷ []))
    (rows_html frame (map (cells c.args.policy.now) c.args.rows.now)) (tag_html TableEnd) (left_out c.args.more)
    c.in_ok-push_element.ensures c.in_ok-push_table_start.ensures c.in_ok-push_rows.ensures c.in_ok-push_tag.ensures c.in_ok-push_left_out.ensures
