-- What is broken is shown as it is reported by the shown name.
use Rattle.std.proofs.Common.{◌∙◌, List, ap, length, ℕ}
use Rattle.desk_expect.specs.ReportText.{report_text}
use Rattle.cli_output.specs.ShownLines.{shown_lines}
use Rattle.cli_expectations.proofs.tested_policy.text_report.Goals as goal

pub returns : goal.returns
returns c =
    let reported = c.in_ok-report.ensures in
    record {
      broken = reported.broken;
      are = reported.are;
      text =
          c.in_ok-text.ensures
          ∙ ap shown_lines
          (c.as_str-lines.ensures.value ∙ reported.text
          ∙ ap (λ (file : List ℕ). report_text c.args.index.now file (length c.args.expectations.now) reported.broken) (c.as_str-path.ensures.value ∙ c.in_ok-name.ensures));
      count = reported.count;
    }
