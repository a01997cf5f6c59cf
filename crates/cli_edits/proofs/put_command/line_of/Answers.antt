use Rattle.std.proofs.Common.{rules}
use Rattle.std.proofs.lemmas.List.{append_assoc}
use Rattle.cli_edits.proofs.put_command.line_of.Goals as goal

pub returns : goal.returns
returns c = search (rules, append_assoc)
