-- The bytes are those of the file that a desk was opened on.
use Rattle.cli_database_files.specs.CopiedFile.{copied_bytes}
use Rattle.cli_write.proofs.CheckedCopy.{is_checked}
use Rattle.cli_write.proofs.checked_copy.if_checked.Goals as goal

pub returns-in-Ok-clause-copy : goal.returns-in-Ok-clause-copy
returns-in-Ok-clause-copy c trees alone =
    is_checked trees c.args.bytes.items (copied_bytes c.args.file) c.requires alone (c.in-Ok.ensures.ours trees alone)
