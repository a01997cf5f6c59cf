-- What holds of each file that is checked holds of the one that has the log.
use Rattle.std.proofs.lemmas.Result.{IfOk-weaker}
use Rattle.sqlite.specs.Files.{file_state}
use Rattle.cli_write.specs.CheckedCopy.{IsCheckedCopy}
use Rattle.cli_write.proofs.checked_copy.checked_copy.Goals as goal

pub returns-in-Ok-clause-copy : goal.returns-in-Ok-clause-copy
returns-in-Ok-clause-copy c =
    let trees = (file_state c.args.conn).committed.trees in
    IfOk-weaker c.checked_bytes.result _ (λ bytes. IsCheckedCopy trees bytes.items) (λ bytes each. each trees c.in-Ok.ensures.alone) c.checked_bytes.ensures.copy

pub unopened-requires : goal.unopened-requires
unopened-requires c = c.in-Err.ensures.unopened c.args.db.now
