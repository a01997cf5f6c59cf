-- The report of the changes is printed as it is shown.
use Rattle.std.proofs.Common.{◌∙◌, Bool, ap, rules, subst}
use Rattle.desk_impact.specs.Report.{IsReport}
use Rattle.desk_policy.specs.Policy.{Content}
use Rattle.desk_service.specs.Foreseeing.{Foreseen, content_after, foreseen_of}
use Rattle.cli_output.specs.ShownLines.{shown_lines}
use Rattle.cli_questions.proofs.printing.print_changes.Goals as goal

pub returns : goal.returns
returns c =
    let foreseen : Foreseen = foreseen_of (λ (content : Content). content) c.args.foreseen.now in
    record {
      report = c.in_ok-report.report;
      is = subst (λ (all : Bool). IsReport foreseen.before (content_after foreseen) all c.in_ok-report.report) c.prints_all.ensures c.in_ok-report.ensures;
      prints = record { status_is = search rules; text_is = c.in_ok-text.ensures ∙ ap shown_lines c.as_str.ensures.value };
    }
