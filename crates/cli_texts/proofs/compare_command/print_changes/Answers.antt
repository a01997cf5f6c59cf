-- What changes to the policy of NEW is told.
use Rattle.cli_texts.proofs.compare_command.print_changes.Goals as goal

pub returns : goal.returns
returns c = record {
  after = c.in_ok-after.after;
  written = c.in_ok-after.ensures;
  tells = c.in_ok-status.ensures;
  beside = c.in_ok-note.ensures;
}
