use Rattle.std.proofs.Common.{◌∙◌, List, [], ap, map, subst, sym}
use Rattle.std.specs.String.{string_bytes}
use Rattle.std.proofs.lemmas.Result.{on_ok_weaker}
use Rattle.desk_impact.specs.Sections.{Section, section_value}
use Rattle.page_findings.specs.Lines.{line_value}
use Rattle.page_maps.specs.Figures.{GainsFileSystemMaps}
use Rattle.page_data.specs.Classes.{class_run}
use Rattle.page_data.specs.Laws.{TellVerdicts}
use Rattle.page_data.specs.Systems.{system_value}
use Rattle.page_filesystem.proofs.Standing.{by_filesystem}
use Rattle.page_summary.specs.SiteFinding.{findings_among}
use Rattle.page_summary.specs.declared.site_finding.SiteFinding.{SiteFinding}
use Rattle.page_places.specs.ListedGroups.{AreListedGroups, listed_value}
use Rattle.page_site.specs.PrivateSystemParts.{telling_value}
use Rattle.page_site.proofs.Parts.{told_is}
use Rattle.page_site.proofs.system_parts.push_system.Goals as goal

pub listed_groups-requires : goal.listed_groups-requires
listed_groups-requires g c =
    let content = g.V.PolicyView.in_force c.args.telling.now.view.now in
    let system = c.requires.system in
    let fs = c.args.fs.0 in
    subst (λ (sections : List Section). TellVerdicts (map section_value sections)) (sym c.into_vec.ensures)
    (c.orders_tell_verdicts.ensures content fs system.all (system_value c.args.system) (c.requires.site.sound.each fs system.listed) system.are_all system.is)

pub lines_in-requires : goal.lines_in-requires
lines_in-requires g c = by_filesystem (g.V.PolicyView.in_force c.args.telling.now.view.now) (map line_value c.args.telling.now.lines.now) c.requires.site.lines

pub returns : goal.returns
returns g c =
    let telling = telling_value g.V.PolicyView.in_force c.args.telling.now in
    let system = system_value c.args.system in
    on_ok_weaker c.push_told.result
    (told_is telling _ system (ap (map class_run) c.as_slice-3.ensures)
    (record {
      counted = c.in_ok-counted.counted.items;
      are = c.in_ok-counted.ensures ∙ ap (findings_among telling.decided) c.lines_in.ensures;
      findings_are = c.as_slice-4.ensures.value ∙ c.in_ok-findings.ensures ∙ ap (map (λ (one : SiteFinding). one.finding)) c.as_slice-2.ensures.value;
    })
    (subst (GainsFileSystemMaps system.classes []) (sym c.as_str.ensures.value)
    (subst (λ runs. GainsFileSystemMaps (map class_run runs) [] (string_bytes c.in_ok-maps.maps)) c.as_slice.ensures c.in_ok-maps.ensures))
    (subst (λ (sections : List Section). AreListedGroups telling.openings (map section_value sections) (listed_value c.in_ok-listed.listed)) c.into_vec.ensures c.in_ok-listed.ensures.groups)
    (string_bytes c.args.page.now) (string_bytes c.push_told.new.page))
    c.push_told.ensures
