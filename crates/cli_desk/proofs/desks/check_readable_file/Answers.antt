-- An empty file is an empty database, and one that cannot be written is refused.
use Rattle.cli_desk.proofs.NoDesk.{by_schema, by_store}
use Rattle.cli_desk.proofs.desks.check_readable_file.Goals as goal

pub returns-in-Ok-true : goal.returns-in-Ok-true
returns-in-Ok-true c = by_schema c.args.db.now c.refused_by_schema.result c.refused_by_schema.ensures

pub returns-in-Err : goal.returns-in-Err
returns-in-Err c = by_store c.args.db.now c.not_writable.result c.not_writable.ensures
