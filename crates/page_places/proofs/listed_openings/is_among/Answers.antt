use Rattle.std.proofs.Common.{◌∙◌, ◌||◌, List, ap, map, sym, take}
use Rattle.std.proofs.lemmas.List.{take_all}
use Rattle.desk_impact.specs.Places.{place_of}
use Rattle.desk_impact.specs.Sections.{PlaceBreaches, section_value}
use Rattle.page_places.specs.ListedOpenings.{is_among, same_place}
use Rattle.page_places.proofs.Gathered.{more}
use Rattle.page_places.proofs.Opened.{one_among}
use Rattle.page_places.proofs.listed_openings.is_among.Goals as goal

pub loop-section-preserved : goal.loop-section-preserved
loop-section-preserved c =
    let places = c.args.places.now in
    let i = c.loop-section.section-index in
    let place = place_of c.args.place in
    let section = c.section-item.result in
    c.has_or_is-has.ensures ∙ ap (λ b. b || same_place (section_value section).place place) c.loop-section.invariant
    ∙ sym (one_among (map section_value (take i places)) (section_value section) place)
    ∙ ap (λ (some : List PlaceBreaches). is_among some place) (sym (more section_value places i section c.loop-section-test.true c.section-item.is))

pub returns : goal.returns
returns c = c.loop-section.invariant ∙ ap (λ some. is_among (map section_value some) (place_of c.args.place)) (take_all c.loop-section.section-index c.args.places.now c.loop-section-test.false)
