use Rattle.std.proofs.Common.{◌++◌, ◌∙◌, ap}
use Rattle.std.specs.List.{flat_map}
use Rattle.std.specs.String.{string_bytes}
use Rattle.std.proofs.lemmas.List.{take_all}
use Rattle.page_html.specs.Tables.{frame_of}
use Rattle.page_html.proofs.Gathered.{writes}
use Rattle.page_summary.specs.Findings.{lines_html}
use Rattle.page_summary.proofs.findings.push_rows.Goals as goal

pub loop-row-preserved : goal.loop-row-preserved
loop-row-preserved c =
    let now = string_bytes c.loop-row.page in
    let frame = frame_of c.args.frame.now in
    writes c.args.rows.now c.loop-row.row-index c.row-item.result (lines_html frame) (string_bytes c.args.page.now) now
    (string_bytes c.push_lines.new.page) c.loop-row-test.true c.loop-row.invariant
    (c.in_ok-push_lines.ensures ∙ ap (λ lines. now ++ lines_html frame lines) (c.as_slice.ensures ∙ c.row-item.is))

pub returns : goal.returns
returns c =
    c.loop-row.invariant
    ∙ ap (λ rows. string_bytes c.args.page.now ++ flat_map (lines_html (frame_of c.args.frame.now)) rows) (take_all c.loop-row.row-index c.args.rows.now c.loop-row-test.false)
