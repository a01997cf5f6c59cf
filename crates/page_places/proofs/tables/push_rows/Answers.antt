use Rattle.std.proofs.Common.{◌<◌, ◌++◌, ◌∙◌, ap, arith, length, map, subst, sym}
use Rattle.std.specs.String.{string_bytes}
use Rattle.std.proofs.lemmas.List.{get_or-map, length-map}
use Rattle.page_data.specs.declared.rows.TableRow.{TableRow}
use Rattle.page_html.proofs.Gathered.{writes_values}
use Rattle.page_html.specs.Tables.{row_html}
use Rattle.page_places.specs.Rows.{cells, row_value, verdict_frame}
use Rattle.page_places.specs.Tables.{HasSize}
use Rattle.page_places.proofs.tables.push_rows.Goals as goal

pub push_verdict_row-requires : goal.push_verdict_row-requires
push_verdict_row-requires c =
    let rows = c.args.rows.now in
    let i = c.loop-row.row-index in
    let row = c.row-item.result in
    let long = length-map rows row_value in
    let within : i < length (map row_value rows) = omega (arith, c.loop-row-test.true) in
    subst HasSize (get_or-map row_value rows i row (row_value row) c.loop-row-test.true ∙ ap row_value (sym c.row-item.is))
    (c.requires i (row_value row) within)

pub loop-row-preserved : goal.loop-row-preserved
loop-row-preserved c =
    let fs = c.args.fs.0 in
    let now = string_bytes c.loop-row.page in
    writes_values (λ (row : TableRow). cells fs (row_value row)) c.args.rows.now c.loop-row.row-index c.row-item.result (row_html verdict_frame) (string_bytes c.args.page.now) now
    (string_bytes c.push_verdict_row.new.page) c.loop-row-test.true c.loop-row.invariant
    (c.in_ok-push_verdict_row.ensures ∙ ap (λ (one : TableRow). now ++ row_html verdict_frame (cells fs (row_value one))) c.row-item.is)
