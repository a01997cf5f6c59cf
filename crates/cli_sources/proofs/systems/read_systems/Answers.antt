-- What is left of the input is what the one of the two leaves.
use Rattle.cli_sources.proofs.systems.read_systems.Goals as goal

pub returns-in-Err-clause-left : goal.returns-in-Err-clause-left
returns-in-Err-clause-left g c = rw c.in-File.is c.read_by_words.ensures.left

pub returns-in-Site-clause-left : goal.returns-in-Site-clause-left
returns-in-Site-clause-left g c = rw c.in-Site.is c.read_folder.ensures.left
