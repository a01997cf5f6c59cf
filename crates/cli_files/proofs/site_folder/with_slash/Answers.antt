use Rattle.std.proofs.Common.{rules}
use Rattle.std.proofs.lemmas.List.{append_assoc}
use Rattle.cli_files.proofs.site_folder.with_slash.Goals as goal

pub returns : goal.returns
returns c = search (rules, append_assoc)
