use Rattle.std.proofs.Common.{◌∙◌, sym}
use Rattle.std.proofs.lemmas.Slice.Eq.{bytes_eq-Decides}
use Rattle.desk_impact.proofs.same_rows.is_same_name.Goals as goal

pub returns : goal.returns
returns c told = (bytes_eq-Decides c.args.name.now c.args.other.now).0 (sym c.eq.ensures ∙ told)
