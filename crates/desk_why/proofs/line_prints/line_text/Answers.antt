use Rattle.std.proofs.Common.{rules}
use Rattle.std.proofs.lemmas.List.{append_assoc}
use Rattle.desk_why.proofs.line_prints.line_text.Goals as goal

pub returns : goal.returns
returns c = search (rules, append_assoc)
