-- The newest of the copies are the newest revisions, to be read so.
use Rattle.std.proofs.Common.{◌∙◌, ap}
use Rattle.desk_core.specs.Head.{newest_in}
use Rattle.desk_service.proofs.SecondReading.{newest_second}
use Rattle.desk_service.proofs.readable_by_init.heads_by_second.Goals as goal

pub returns : goal.returns
returns c = ap newest_in c.in_ok-copies.ensures ∙ newest_second c.args.heads.now
