-- What is found in the file is what it holds. No disk lies about a copy.
use Rattle.std.proofs.Common.{refl}
use Rattle.sqlite_pool.specs.Pool.{state}
use Rattle.sqlite.specs.Files.{file_state}
use Rattle.cli_database_files.proofs.OneFile.{found_alone, good_disk}
use Rattle.cli_database_files.proofs.one_file.open_alone.Goals as goal

pub returns-in-Ok-clause-found : goal.returns-in-Ok-clause-found
unfolding state
returns-in-Ok-clause-found c trees alone =
    found_alone c.in-Ok.conn (record { log = c.new.result; db = c.args.file }) trees c.new.ensures (c.in-Ok.ensures.found (good_disk (file_state c.in-Ok.conn).is_clean refl)) alone
