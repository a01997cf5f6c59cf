use Rattle.std.proofs.Common.{[], ◌∷◌, codes, map}
use Rattle.std.specs.String.{string_bytes}
use Rattle.page_html.proofs.Gaining.{three_pieces}
use Rattle.page_html.specs.Blocks.{tag_html}
use Rattle.page_html.specs.Tables.{rows_html, table_start}
use Rattle.page_html.specs.Titles.{Named, Said}
use Rattle.page_html.specs.declared.blocks.Tag.TheVariants.{TableEnd}
use Rattle.page_filesystem.specs.Shares.{cells, frame}
use Rattle.page_filesystem.proofs.shares.push_shares.Goals as goal

pub returns : goal.returns
returns c =
    three_pieces (string_bytes c.args.page.now) (string_bytes c.push_table_start.new.page) (string_bytes c.push_share_rows.new.page)
    (string_bytes c.push_tag.new.page)
    (table_start frame (Said (codes "Addresses that may mount some directory of ") ∷ Named c.args.name.now ∷ []))
    (rows_html frame (map cells c.args.shares.now)) (tag_html TableEnd)
    c.in_ok-push_table_start.ensures c.in_ok-push_share_rows.ensures c.in_ok-push_tag.ensures
