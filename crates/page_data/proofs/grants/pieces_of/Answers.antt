use Rattle.std.proofs.Common.{◌++◌, ◌∙◌, [], ap, map, sym}
use Rattle.std.specs.List.{flat_map}
use Rattle.std.proofs.lemmas.List.{take_all}
use Rattle.std.proofs.lemmas.List.Folds.{flat_map-map}
use Rattle.desk_who.specs.Who.{range_value}
use Rattle.desk_impact.specs.Sections.{PlaceBreaches, Section, section_value}
use Rattle.page_data.specs.PrivateGrants.{piece_value, pieces_in}
use Rattle.page_data.proofs.Gathered.{writes}
use Rattle.page_data.proofs.grants.pieces_of.Goals as goal

pub loop-section-preserved : goal.loop-section-preserved
loop-section-preserved c =
    writes c.args.sections.now c.loop-section.section-index c.section-item.result c.loop-section-test.true c.section-item.is (λ (section : Section). pieces_in (map range_value section.ranges)) []
    (map piece_value c.loop-section.pieces.items) (map piece_value c.push_pieces.new.pieces.items) c.loop-section.invariant
    (c.in_ok-push_pieces.ensures ∙ ap (λ ranges. map piece_value c.loop-section.pieces.items ++ pieces_in (map range_value ranges)) c.as_slice.ensures)

pub returns : goal.returns
returns c =
    c.loop-section.invariant ∙ ap (flat_map (λ (section : Section). pieces_in (map range_value section.ranges))) (take_all c.loop-section.section-index c.args.sections.now c.loop-section-test.false)
    ∙ sym (flat_map-map (λ (section : PlaceBreaches). pieces_in section.ranges) section_value c.args.sections.now)
