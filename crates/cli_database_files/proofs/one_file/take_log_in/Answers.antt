-- The log is in the database file. No disk lies about a copy.
use Rattle.std.proofs.Common.{refl}
use Rattle.cli_database_files.proofs.one_file.take_log_in.Goals as goal

pub returns-in-Ok-clause-alone : goal.returns-in-Ok-clause-alone
returns-in-Ok-clause-alone c = (c.in-Ok.ensures.copied refl).seen.alone
