-- The report is that of what was found, and the note says whether the exports text was looked at.
use Rattle.std.proofs.Common.{refl, rules}
use Rattle.cli_texts.proofs.check_command.print_findings.Goals as goal

pub returns : goal.returns
returns c = record {
  checked = c.in_ok-checked.checked;
  reports = c.in_ok-checked.ensures;
  prints = record {
    prints = record { status_is = search rules; text_is = refl };
    says = c.in_ok-note.ensures;
  };
}
