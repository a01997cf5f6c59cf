use Rattle.std.proofs.Common.{◌∙◌, List, refl, rules, subst, ℕ}
use Rattle.std.specs.String.{string_bytes}
use Rattle.cli_expectations.specs.TestedPolicy.{SaysBeside}
use Rattle.cli_expectations.proofs.tested_policy.print_kept.Goals as goal

pub returns : goal.returns
returns c = record {
  report = c.in_ok-report.report;
  is = c.in_ok-report.ensures;
  prints = record { status_is = search rules; text_is = refl };
  beside =
      subst (λ (file : List ℕ). SaysBeside c.args.index.now file c.args.file.text.now c.args.expectations.now (string_bytes c.in_ok-note.note)) (c.as_str-shown.ensures.value ∙ c.in_ok-name.ensures)
      c.in_ok-note.ensures;
}
