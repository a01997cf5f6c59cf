use Rattle.std.proofs.Common.{◌∙◌, sym}
use Rattle.std.proofs.lemmas.List.{length-map}
use Rattle.std.specs.String.{string_bytes}
use Rattle.std.proofs.lemmas.Result.{on_ok_weaker}
use Rattle.page_maps.specs.Figures.{images_of}
use Rattle.page_summary.specs.SystemRows.{AreOverviewRows, overview_text}
use Rattle.page_site.specs.Page.{parts_of}
use Rattle.page_site.specs.PrivateSections.{parts_found}
use Rattle.page_site.proofs.Pieces.{gains_section, gains_told}
use Rattle.page_summary.specs.declared.sections.Section.TheVariants.{Systems}
use Rattle.page_site.proofs.sections.push_systems_table.Goals as goal

pub returns : goal.returns
returns c =
    let parts = c.args.parts.now in
    let begun = string_bytes c.push_section_start.new.page in
    let told = string_bytes c.push_overview_of.new.page in
    on_ok_weaker c.push_section_end.result
    (gains_section Systems (string_bytes c.args.page.now) begun told (string_bytes c.push_section_end.new.page) c.in_ok-push_section_start.ensures
    (gains_told (AreOverviewRows (parts_of parts.policy.now parts.heads.now parts.proposals.now (parts_found parts))) overview_text begun told c.in_ok-push_overview_of.ensures))
    c.push_section_end.ensures

pub push_overview_of-requires : goal.push_overview_of-requires
push_overview_of-requires c =
    let parts = c.args.parts.now in
    let found = c.requires.found in
    record {
      sound = c.requires.sound;
      systems = found.systems;
      reasons = found.reasons.count;
      maps = sym (length-map parts.maps.now images_of) ∙ found.maps.count;
    }
