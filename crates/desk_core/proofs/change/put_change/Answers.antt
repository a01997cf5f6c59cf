use Rattle.std.proofs.Common.{subst}
use Rattle.desk_core.specs.PrivateState.{MayStand}
use Rattle.desk_core.specs.Views.{shown}
use Rattle.desk_core.proofs.change.put_change.Goals as goal

pub set-requires : goal.set-requires
set-requires g c = subst (λ ch. MayStand (g.V.PolicyView.in_force c.args.site.now.view) (shown g.V.PolicyView.part_rows ch)) c.in-Lines.is c.requires
