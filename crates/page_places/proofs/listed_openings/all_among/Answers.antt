use Rattle.std.proofs.Common.{◌∙◌, [], ap, map, sym}
use Rattle.std.specs.List.{flat_map}
use Rattle.std.proofs.lemmas.List.{take_all}
use Rattle.std.proofs.lemmas.List.Folds.{flat_map-map}
use Rattle.desk_impact.specs.Sections.{section_value}
use Rattle.desk_impact.specs.declared.sections.Section.{Section}
use Rattle.page_data.specs.Opening.{opening_section}
use Rattle.page_data.specs.declared.opening.Opening.{Opening}
use Rattle.page_places.specs.Openings.{opening_value}
use Rattle.page_data.proofs.Gathered.{writes}
use Rattle.page_places.specs.ListedOpenings.{opened_if}
use Rattle.page_places.proofs.listed_openings.all_among.Goals as goal

pub loop-section-preserved : goal.loop-section-preserved
loop-section-preserved c =
    let places = map section_value c.args.places.now in
    writes c.args.openings.now c.loop-section.section-index c.section-item.result c.loop-section-test.true c.section-item.is (λ section. opened_if places (opening_section section)) []
    (map opening_value c.loop-section.all.items) (map opening_value c.push_if_among.new.all.items) c.loop-section.invariant c.in_ok-push_if_among.ensures

pub returns : goal.returns
returns c =
    let places = map section_value c.args.places.now in
    c.loop-section.invariant
    ∙ ap (flat_map (λ (section : Section Opening). opened_if places (opening_section section))) (take_all c.loop-section.section-index c.args.openings.now c.loop-section-test.false)
    ∙ sym (flat_map-map (opened_if places) opening_section c.args.openings.now)
