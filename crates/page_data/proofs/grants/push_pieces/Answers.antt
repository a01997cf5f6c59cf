use Rattle.std.proofs.Common.{◌++◌, ◌∙◌, ap, map, sym}
use Rattle.std.specs.List.{flat_map}
use Rattle.std.proofs.lemmas.List.{append-nil, take_all}
use Rattle.std.proofs.lemmas.List.Folds.{flat_map-map}
use Rattle.desk_who.specs.Who.{range_value}
use Rattle.page_data.specs.PrivateGrants.{piece_of, piece_value}
use Rattle.page_data.proofs.Gathered.{writes}
use Rattle.page_data.proofs.grants.push_pieces.Goals as goal

pub loop-range-init : goal.loop-range-init
loop-range-init c = sym (append-nil (map piece_value c.args.pieces.now.items))

pub loop-range-preserved : goal.loop-range-preserved
loop-range-preserved c =
    writes c.args.ranges.now c.loop-range.range-index c.range-item.result c.loop-range-test.true c.range-item.is (λ range. piece_of (range_value range)) (map piece_value c.args.pieces.now.items)
    (map piece_value c.loop-range.pieces.items) (map piece_value c.push_piece.new.pieces.items) c.loop-range.invariant c.in_ok-push_piece.ensures

pub returns : goal.returns
returns c =
    c.loop-range.invariant
    ∙ ap (λ ranges. map piece_value c.args.pieces.now.items ++ flat_map (λ range. piece_of (range_value range)) ranges) (take_all c.loop-range.range-index c.args.ranges.now c.loop-range-test.false)
    ∙ sym (ap (λ pieces. map piece_value c.args.pieces.now.items ++ pieces) (flat_map-map piece_of range_value c.args.ranges.now))
