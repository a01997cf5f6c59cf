-- The ranges are those of the policy that the text writes.
use Rattle.cli_texts.proofs.clients_command.list_clients.Goals as goal

pub returns : goal.returns
returns c = record { policy = c.in_ok-view.view; written = c.in_ok-view.ensures; prints = c.in_ok-printed.ensures }
