use Rattle.desk_text.proofs.PathLaws.{printed_paths_differ}
use Rattle.desk_text.proofs.laws.printed_paths_differ.Goals as goal

pub returns : goal.returns
returns c = printed_paths_differ
