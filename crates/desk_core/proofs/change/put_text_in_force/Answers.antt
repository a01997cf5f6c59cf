use Rattle.std.proofs.Common.{sym, subst}
use Rattle.desk_policy.specs.Site.{HaveReadableLengths}
use Rattle.desk_core.specs.PrivateState.{PutsInForce}
use Rattle.desk_core.proofs.change.put_text_in_force.Goals as goal

pub put_in_force-requires : goal.put_in_force-requires
put_in_force-requires g c = subst HaveReadableLengths (sym c.in_ok-site.ensures) c.requires

pub returns : goal.returns
returns g c = subst (λ texts. PutsInForce g.V.PolicyView.in_force texts c.put_in_force.result) c.in_ok-site.ensures c.put_in_force.ensures
