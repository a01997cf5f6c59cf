use Rattle.std.proofs.Common.{◌≡◌, ◌+◌, ◌<◌, ◌∙◌, [], ap, arith, get_or, length, map, refl, subst, sym}
use Rattle.std.specs.Prelude.{count_by}
use Rattle.std.specs.Option.{option_map}
use Rattle.std.proofs.lemmas.List.{get_or-map, get_or_default}
use Rattle.std.proofs.lemmas.Option.{slice_get-map, slice_get_read}
use Rattle.desk_core.specs.Head.{newest_in}
use Rattle.page_findings.proofs.Adding.{as_many}
use Rattle.desk_policy.specs.SiteFile.{exports_file_name}
use Rattle.page_data.specs.Classes.{class_run}
use Rattle.page_data.specs.Systems.{system_value}
use Rattle.page_data.specs.Values.{AreRunsOfSome}
use Rattle.page_data.specs.declared.systems.FileSystemReport.{FileSystemReport}
use Rattle.page_maps.specs.Figures.{images_of}
use Rattle.page_summary.specs.Files.{file_of, has_proposal}
use Rattle.page_summary.specs.Reaching.{IsReachOf}
use Rattle.page_summary.specs.SystemRows.{is_check_line, is_first_line}
use Rattle.page_summary.proofs.Rowed.{runs_of_some}
use Rattle.page_summary.proofs.system_rows.system_row.Goals as goal

pub reach_of-requires : goal.reach_of-requires
reach_of-requires c =
    let site = c.args.site.now in
    subst (λ runs. AreRunsOfSome (map class_run runs)) (sym (c.as_slice-runs.ensures ∙ ap (λ (one : FileSystemReport). one.classes) (sym c.index-site-place.is)))
    (runs_of_some site.policy.now site.systems.now c.requires.parts.systems c.args.place c.index-site-place.result c.requires.listed c.index-site-place.is)

pub returns : goal.returns
returns c =
    let site = c.args.site.now in
    let place = c.args.place in
    let table = site.policy.now.table in
    let mount = c.index-as_slice-place.result in
    let report = c.index-site-place.result in
    let many = as_many site.policy.now site.systems.now c.requires.parts.systems in
    let within : place < length table = omega (arith, c.requires.listed) in
    let is_mount : mount ≡ get_or table place mount = c.index-as_slice-place.is ∙ ap (λ mounts. get_or mounts place mount) (c.as_slice.ensures ∙ c.filesystems.ensures) in
    let file_2 : c.as_str.result.now ≡ file_of mount = c.as_str.ensures.value ∙ c.in_ok-file.ensures ∙ ap exports_file_name c.text-name.ensures.printed in
    let file_3 : c.as_str-2.result.now ≡ file_of mount = c.as_str-2.ensures.value ∙ c.in_ok-file.ensures ∙ ap exports_file_name c.text-name.ensures.printed in
    let maps_within : place + 1 < length site.maps.now = omega (arith, c.requires.parts.maps) in
    let maps = sym (get_or-map images_of site.maps.now (place + 1) c.index-site-place-3.result [] maps_within) in
    let reasons : c.as_slice-reasons.result.now ≡ get_or site.reasons.now place [] =
    (let other = get_or_default site.reasons.now place c.index-site-place-2.result [] (omega (arith, c.requires.parts.reasons)) in cc) in
    record {
      mount = mount;
      listed = slice_get_read table (length table) place mount refl within is_mount;
      system = system_value report;
      found = slice_get-map system_value site.systems.now place
          ∙ ap (option_map system_value) (slice_get_read site.systems.now (length site.systems.now) place report refl c.requires.listed c.index-site-place.is);
      fs = refl;
      name = c.text-name.ensures.printed;
      reach = subst (λ runs. IsReachOf (map class_run runs) (get_or (map images_of site.maps.now) (place + 1) []) c.reach_of.result)
          (c.as_slice-runs.ensures ∙ ap (λ (one : FileSystemReport). one.classes) (sym c.index-site-place.is))
          (subst (λ images. IsReachOf (map class_run c.as_slice-runs.result.now) images c.reach_of.result) maps c.reach_of.ensures);
      custodians = c.as_slice-2.ensures;
      guarded = refl;
      head = c.newest_among.ensures ∙ ap (newest_in site.heads.now) file_2;
      waits = c.has_proposal.ensures ∙ ap (has_proposal site.proposals.now) file_3;
      first = c.count_first.ensures ∙ ap (count_by is_first_line) reasons;
      check = c.count_check.ensures ∙ ap (count_by is_check_line) reasons;
    }
