use Rattle.std.proofs.Common.{◌≡◌, Ok, ap, subst}
use Rattle.desk_policy.specs.Parsing.{read_site_tables}
use Rattle.desk_core.specs.Head.{Newest, newest_in}
use Rattle.desk_core.specs.Site.{site_in}
use Rattle.desk_core.specs.Standing.{Standing}
use Rattle.desk_store.proofs.desk.Desk.tables.Goals as goal

pub returns-clause-stood_at : goal.returns-clause-stood_at
returns-clause-stood_at g c history pending stands =
    subst (λ (n : Newest). read_site_tables (site_in n) ≡ Ok c.tables.result.now) (ap (λ (s : Standing). s.newest) stands.standing_is)
    (subst (λ s. read_site_tables (site_in (newest_in s.state.heads)) ≡ Ok c.tables.result.now) c.self.view_is c.tables.ensures)
