-- The row is that of a revision, or of none.
use Rattle.std.proofs.Common.{Err, ap}
use Rattle.desk_store.proofs.Kept.{foreign_here, gathered_more}
use Rattle.desk_store.proofs.gathered_revisions.gather_row.Goals as goal

pub returns-in-Ok-add_revision : goal.returns-in-Ok-add_revision
returns-in-Ok-add_revision c = λ rows of.
    gathered_more rows c.args.row.now c.args.heads.now.items c.add_revision.new.heads.items c.in-Ok.revision c.in-Ok.ensures.read c.in-Ok.ensures.bare c.in-Ok.ensures.storable c.in-Ok-add_revision.ensures of

pub returns-in-Err-Schema : goal.returns-in-Err-Schema
returns-in-Err-Schema c = λ rows of. foreign_here rows c.args.row.now (c.in-Err-Schema.ensures.foreign (ap Err c.in-Err-Schema.field-0-is))
