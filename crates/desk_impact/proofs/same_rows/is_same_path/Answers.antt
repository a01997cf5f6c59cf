use Rattle.std.proofs.Common.{◌∙◌, sym}
use Rattle.desk_impact.proofs.Same.{same_is}
use Rattle.desk_impact.proofs.same_rows.is_same_path.Goals as goal

pub returns : goal.returns
returns c told = same_is c.args.path.now c.args.other.now (sym c.eq.ensures.same ∙ told)
