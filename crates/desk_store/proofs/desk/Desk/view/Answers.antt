use Rattle.std.proofs.Common.{ap, subst}
use Rattle.desk_core.specs.Head.{Newest, newest_in}
use Rattle.desk_core.specs.Site.{IsInForce, site_in}
use Rattle.desk_core.specs.Standing.{Standing}
use Rattle.desk_store.proofs.desk.Desk.view.Goals as goal

pub returns-clause-stood_at : goal.returns-clause-stood_at
returns-clause-stood_at g c history pending stands =
    let content = g.V.PolicyView.in_force c.view.result.now in
    subst (λ (n : Newest). IsInForce (site_in n) content) (ap (λ (s : Standing). s.newest) stands.standing_is) (subst (λ s. IsInForce (site_in (newest_in s.state.heads)) content) c.self.view_is c.view.ensures.in_force)
