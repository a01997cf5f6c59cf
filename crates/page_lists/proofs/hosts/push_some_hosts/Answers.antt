use Rattle.std.proofs.Common.{[], ◌∷◌, codes, map}
use Rattle.std.specs.Prelude.{length}
use Rattle.std.specs.String.{string_bytes}
use Rattle.page_html.proofs.Gaining.{five_pieces}
use Rattle.page_html.specs.Blocks.{tag_html}
use Rattle.page_html.specs.Tables.{rows_html, table_start}
use Rattle.page_html.specs.Titles.{Said}
use Rattle.page_html.specs.declared.blocks.Tag.TheVariants.{TableEnd}
use Rattle.page_lists.specs.Hosts.{cells, host_frame, row_value}
use Rattle.page_lists.specs.Tables.{long_end, long_start}
use Rattle.page_lists.proofs.hosts.push_some_hosts.Goals as goal

pub returns : goal.returns
returns c =
    let rows = c.args.rows.now in
    five_pieces (string_bytes c.args.page.now) (string_bytes c.push_long_start.new.page) (string_bytes c.push_table_start.new.page)
    (string_bytes c.push_host_rows.new.page) (string_bytes c.push_tag.new.page) (string_bytes c.push_long_end.new.page)
    (long_start 24 (length rows) (codes "name") (codes "names")) (table_start host_frame (Said (codes "Names of hosts that lines write") ∷ []))
    (rows_html host_frame (map (λ row. cells (row_value row)) rows)) (tag_html TableEnd) (long_end 24 (length rows))
    c.in_ok-push_long_start.ensures c.in_ok-push_table_start.ensures c.in_ok-push_host_rows.ensures c.in_ok-push_tag.ensures c.in_ok-push_long_end.ensures
