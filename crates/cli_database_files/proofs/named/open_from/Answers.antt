-- The database that the files hold is opened and found; the clock changes nothing of that.
use Rattle.std.proofs.Common.{subst}
use Rattle.sqlite.specs.Files.{file_state}
use Rattle.sqlite.specs.Start.{FindsIn}
use Rattle.cli_database_files.proofs.named.open_from.Goals as goal

pub returns-in-Ok-open_files-clause-opened : goal.returns-in-Ok-open_files-clause-opened
returns-in-Ok-open_files-clause-opened g c = rw c.set_clock.ensures λ clean. (c.in-Ok-open_files.ensures.opened clean).0

pub returns-in-Ok-open_files-clause-found : goal.returns-in-Ok-open_files-clause-found
returns-in-Ok-open_files-clause-found g c = rw c.set_clock.ensures λ clean.
    let found = c.in-Ok-open_files.ensures.found clean in
    subst (λ image. FindsIn image (file_state c.in-Ok-open_files.conn)) c.in-Ok.ensures.held (record { holds = found.holds; reads = found.reads })
