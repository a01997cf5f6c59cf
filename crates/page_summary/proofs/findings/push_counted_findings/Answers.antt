use Rattle.std.proofs.Common.{◌++◌, ◌-◌, ◌∙◌, ap, length}
use Rattle.std.specs.String.{string_bytes}
use Rattle.std.proofs.lemmas.Result.{on_ok_weaker}
use Rattle.page_summary.specs.Findings.{counts}
use Rattle.page_summary.proofs.findings.push_counted_findings.Goals as goal

pub returns : goal.returns
returns c =
    let rows = c.args.rows.now in
    on_ok_weaker c.push_element.result
    (λ added. added ∙ ap (λ n. string_bytes c.args.page.now ++ counts n (length rows - n)) c.count_first-first.ensures) c.push_element.ensures
