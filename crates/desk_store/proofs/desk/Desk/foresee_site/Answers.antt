use Rattle.std.proofs.Common.{ap, subst}
use Rattle.desk_core.specs.Foresight.{ForeseesSite, TellsSite, with_text}
use Rattle.desk_core.specs.Head.{Newest, newest_in}
use Rattle.desk_core.specs.Site.{site_in}
use Rattle.desk_core.specs.Standing.{Standing}
use Rattle.desk_store.proofs.desk.Desk.foresee_site.Goals as goal

pub returns-clause-stood_at : goal.returns-clause-stood_at
returns-clause-stood_at g c history pending stands =
    let tells = λ (n : Newest). TellsSite g.V.PolicyView.in_force (site_in (with_text n c.args.file.now c.args.text.now)) c.foresee_site.result in
    subst tells (ap (λ (s : Standing). s.newest) stands.standing_is) (subst (λ s. tells (newest_in s.state.heads)) c.self.view_is c.foresee_site.ensures)

pub returns-clause-foreseen : goal.returns-clause-foreseen
returns-clause-foreseen g c =
    subst (λ s. ForeseesSite g.V.PolicyView.in_force s.state c.args.file.now c.args.text.now c.foresee_site.result) c.self.view_is c.foresee_site.ensures
