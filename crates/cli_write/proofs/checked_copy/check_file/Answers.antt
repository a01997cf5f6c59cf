-- The desk stands on what is found in the file.
use Rattle.std.proofs.lemmas.Result.{on_ok_weaker}
use Rattle.sqlite.specs.Files.{file_state}
use Rattle.cli_write.proofs.checked_copy.check_file.Goals as goal

pub returns-in-Ok-clause-ours : goal.returns-in-Ok-clause-ours
returns-in-Ok-clause-ours c =
    on_ok_weaker c.check_connection.result (λ ours trees alone. ((file_state c.in-Ok.conn).committed, c.in-Ok.ensures.found trees alone, ours)) c.check_connection.ensures.ours

pub unopened-requires : goal.unopened-requires
unopened-requires c = c.in-Err.ensures.unopened c.args.db.now
