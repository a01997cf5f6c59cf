use Rattle.std.proofs.Common.{◌++◌, ◌∙◌, ap, codes, length, map, sym}
use Rattle.std.specs.String.{string_bytes}
use Rattle.std.proofs.lemmas.List.{length-take-le}
use Rattle.page_html.specs.Parts.{items_of}
use Rattle.page_html.specs.PrivateTables.{empty_cells}
use Rattle.page_html.specs.Tables.{cells_html, column_of}
use Rattle.page_html.proofs.Gaining.{four_pieces}
use Rattle.page_html.proofs.Rows.{filled_all}
use Rattle.page_html.proofs.tables.push_short_row.Goals as goal

pub push_cells-requires : goal.push_cells-requires
push_cells-requires c =
    let columns = c.args.frame.now.columns.now in
    let cells = c.args.cells.now in
    sym (ap length c.split_at.ensures.front ∙ length-take-le (length cells) columns c.requires)

pub returns : goal.returns
returns c =
    let page = string_bytes c.args.page.now in
    let own = cells_html (map column_of c.split_at.result.0.now) (map (λ cell. items_of cell.now) c.args.cells.now) in
    let empty = empty_cells (map column_of c.split_at.result.1.now) in
    four_pieces page (string_bytes c.push_str.new.self) (string_bytes c.push_cells.new.page) (string_bytes c.push_empty_cells.new.page) (string_bytes c.push_str-2.new.self)
    (codes "<tr>") own empty (codes "</tr>\n")
    c.in_ok-push_str.ensures.bytes c.in_ok-push_cells.ensures c.in_ok-push_empty_cells.ensures c.in_ok-push_str-2.ensures.bytes
    ∙ ap (λ t. page ++ (codes "<tr>" ++ t ++ codes "</tr>\n"))
    (filled_all column_of (λ cell. items_of cell.now) c.args.frame.now.columns.now c.args.cells.now c.split_at.result.0.now c.split_at.result.1.now
    c.requires c.split_at.ensures.front c.split_at.ensures.back)
