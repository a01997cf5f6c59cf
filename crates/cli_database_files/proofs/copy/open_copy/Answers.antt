-- SQLite does not open the copy.
use Rattle.cli_database_files.proofs.copy.open_copy.Goals as goal

pub returns-in-Ok-clause-unopened : goal.returns-in-Ok-clause-unopened
returns-in-Ok-clause-unopened c = c.open_copied.ensures.unopened c.args.path.now
