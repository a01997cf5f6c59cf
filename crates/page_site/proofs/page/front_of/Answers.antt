use Rattle.std.proofs.Common.{IfOk, map, subst, sym}
use Rattle.std.specs.String.{string_bytes}
use Rattle.page_findings.specs.Lines.{line_value}
use Rattle.page_data.specs.Laws.{IsSoundSite}
use Rattle.page_data.specs.Systems.{system_value}
use Rattle.page_site.specs.FoundInSite.{IsFound}
use Rattle.page_site.specs.Page.{IsFront}
use Rattle.page_site.specs.PrivatePage.{found_by}
use Rattle.page_site.proofs.page.front_of.Goals as goal

pub front_by-requires : goal.front_by-requires
front_by-requires g c =
    let found = found_by (map system_value c.args.systems.now) c.args.found.now (map line_value c.args.lines.now) in
    record {
      sound = subst IsSoundSite (sym c.policy.ensures) c.requires.sound;
      found = subst (λ content. IsFound content found) (sym c.policy.ensures) c.requires.found;
      order = c.requires.order;
    }

pub returns : goal.returns
returns g c =
    let site = c.args.site.now in
    let found = found_by (map system_value c.args.systems.now) c.args.found.now (map line_value c.args.lines.now) in
    subst (λ content. IfOk c.front_by.result (λ page. IsFront content site.heads.now site.proposals.now found c.args.database.now (string_bytes page)))
    c.policy.ensures c.front_by.ensures
