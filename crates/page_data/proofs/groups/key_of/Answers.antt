use Rattle.std.proofs.Common.{◌∙◌, [], ap, sym}
use Rattle.std.specs.List.{flat_map}
use Rattle.std.proofs.lemmas.List.{take_all}
use Rattle.std.proofs.lemmas.List.Folds.{flat_map-map}
use Rattle.desk_who.specs.Who.{range_value}
use Rattle.page_data.specs.PrivateGroups.{numbers_of}
use Rattle.page_data.proofs.Gathered.{writes}
use Rattle.page_data.proofs.groups.key_of.Goals as goal

pub loop-range-preserved : goal.loop-range-preserved
loop-range-preserved c =
    writes c.args.ranges.now c.loop-range.range-index c.range-item.result c.loop-range-test.true c.range-item.is (λ range. numbers_of (range_value range)) [] c.loop-range.key.items
    c.push_numbers.new.key.items c.loop-range.invariant c.in_ok-push_numbers.ensures

pub returns : goal.returns
returns c =
    c.loop-range.invariant ∙ ap (flat_map (λ range. numbers_of (range_value range))) (take_all c.loop-range.range-index c.args.ranges.now c.loop-range-test.false)
    ∙ sym (flat_map-map numbers_of range_value c.args.ranges.now)
