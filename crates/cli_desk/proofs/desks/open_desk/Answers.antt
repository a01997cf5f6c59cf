-- The desk is opened on the connection that was opened, and a connection that is refused is no desk.
use Rattle.std.proofs.lemmas.Result.{IfOk-weaker}
use Rattle.sqlite_wal.specs.Files.{image_at}
use Rattle.sqlite.specs.Files.{over_files}
use Rattle.cli_desk.specs.Desks.{OpensDesk}
use Rattle.cli_desk.proofs.NoDesk.{by_store}
use Rattle.cli_desk.proofs.desks.open_desk.Goals as goal

pub returns-in-Ok-clause-opened : goal.returns-in-Ok-clause-opened
returns-in-Ok-clause-opened g c =
    IfOk-weaker _ _ (OpensDesk over_files (image_at g.S.Start))
    (λ desk on. record { conn = c.in-Ok.conn; found = λ good. (c.in-Ok.ensures.opened good, c.in-Ok.ensures.found good); on = on })
    c.desk_over.ensures.opened

pub returns-in-Err-clause-refused : goal.returns-in-Err-clause-refused
returns-in-Err-clause-refused g c = by_store c.args.db.now c.in-Err.answer c.in-Err.ensures.refused
