-- The report is told as it is shown.
use Rattle.std.proofs.Common.{◌∙◌, ap, rules}
use Rattle.cli_output.specs.ShownLines.{shown_lines}
use Rattle.cli_texts.proofs.compare_command.told_report.Goals as goal

pub returns : goal.returns
returns c = record {
  report = c.in_ok-report.report;
  is_report = c.in_ok-report.ensures;
  status_is = search rules;
  text_is = c.in_ok-text.ensures ∙ ap shown_lines c.as_str.ensures.value;
}
