use Rattle.std.proofs.Common.{◌<◌, arith, length}
use Rattle.std.specs.String.{string_bytes}
use Rattle.std.proofs.lemmas.Result.{on_ok_weaker}
use Rattle.page_summary.specs.Findings.{folded_rows, open_rows}
use Rattle.page_html.proofs.Gaining.{split_pieces}
use Rattle.page_summary.proofs.findings.push_open_and_folded.Goals as goal

pub returns : goal.returns
returns c =
    let all = c.args.rows.now in
    let many : 24 < length all = omega (arith, c.if-rows-le-OPEN.false) in
    let parts = c.split_at.result in
    on_ok_weaker c.push_folded.result
    (split_pieces all parts.0.now parts.1.now 24 open_rows open_rows folded_rows (string_bytes c.args.page.now) (string_bytes c.push_table-2.new.page)
    (string_bytes c.push_folded.new.page)
    many c.split_at.ensures.front c.split_at.ensures.back c.in_ok-push_table.ensures)
    c.push_folded.ensures
