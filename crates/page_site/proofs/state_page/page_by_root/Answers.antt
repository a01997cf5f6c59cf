use Rattle.std.proofs.Common.{List, map, subst, sym}
use Rattle.desk_core.specs.Head.{newest_in}
use Rattle.desk_core.specs.Site.{site_in}
use Rattle.desk_policy.specs.Policy.{Content}
use Rattle.desk_impact.specs.declared.sections.Section.{Section}
use Rattle.page_data.specs.Opening.{AreOpenings, opening_section}
use Rattle.page_data.specs.declared.opening.Opening.{Opening}
use Rattle.page_data.specs.Laws.{IsSoundIfRead}
use Rattle.page_site.specs.WaitingProposals.{waiting_value}
use Rattle.page_site.specs.PrivateForeseenSites.{AreForeseen}
use Rattle.page_site.proofs.Sites.{sound}
use Rattle.page_site.proofs.Waits.{source_of}
use Rattle.page_site.proofs.state_page.page_by_root.Goals as goal

abbrev in_force : Content → Content
in_force content = content

pub server_of_site-requires : goal.server_of_site-requires
server_of_site-requires c =
    let law = subst IsSoundIfRead c.policy.ensures c.sites_are_sound.ensures in
    sound (site_in (newest_in c.args.state.now.heads)) _ law c.requires.read.is c.requires.read.consistent

pub report_page-requires-clause-source : goal.report_page-requires-clause-source
report_page-requires-clause-source c =
    let heads = c.args.state.now.heads in
    let proposals = c.args.state.now.proposals in
    let old = in_force c.args.state.now.view in
    source_of _ heads proposals old c.heads.ensures c.proposals.ensures c.requires.read c.tables.ensures
    (subst (λ some. AreForeseen (newest_in heads) old proposals (map (waiting_value in_force) some)) (sym c.as_slice.ensures.value) c.in_ok-waiting.ensures)
    (subst (λ (some : List (Section Opening)). AreOpenings c.args.view.now (map opening_section some)) (sym c.as_slice-3.ensures.value) c.in_ok-openings.ensures)
