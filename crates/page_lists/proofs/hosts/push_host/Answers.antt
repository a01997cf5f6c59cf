use Rattle.std.proofs.Common.{◌≡◌, ◌++◌, ◌∙◌, ap, map}
use Rattle.std.specs.String.{string_bytes}
use Rattle.page_html.specs.Parts.{items_of}
use Rattle.page_html.specs.Tables.{row_html}
use Rattle.page_lists.specs.Hosts.{cells, host_frame, row_value}
use Rattle.page_lists.proofs.hosts.push_host.Goals as goal

pub returns : goal.returns
returns c =
    let told : map (λ cell. items_of cell.now) c.five_cells.result ≡ cells (row_value c.args.row.now) =
    c.five_cells.ensures ∙ cc (c.kind_words.ensures, c.kind_of.ensures, c.stands_for.ensures, c.as_slice.ensures.value, c.as_slice-2.ensures.value, c.in_ok-uses.ensures) in
    c.in_ok-push_row.ensures ∙ ap (λ cells. string_bytes c.args.page.now ++ row_html host_frame cells) told
