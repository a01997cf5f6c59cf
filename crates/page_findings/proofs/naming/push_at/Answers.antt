use Rattle.std.proofs.Common.{◌++◌, ◌∙◌, ap, sym}
use Rattle.std.specs.List.{flat_map}
use Rattle.std.proofs.lemmas.List.{append-nil, take_all}
use Rattle.std.proofs.lemmas.List.Folds.{flat_map-map}
use Rattle.desk_who.specs.Who.{range_value}
use Rattle.page_findings.specs.PrivateDeciding.{named_in}
use Rattle.page_data.proofs.Gathered.{writes}
use Rattle.page_findings.proofs.naming.push_at.Goals as goal

pub loop-range-init : goal.loop-range-init
loop-range-init c = sym (append-nil c.args.lines.now.items)

pub loop-range-preserved : goal.loop-range-preserved
loop-range-preserved c =
    writes c.met-found.result.now c.loop-range.range-index c.range-item.result c.loop-range-test.true c.range-item.is (λ range. named_in (range_value range)) c.args.lines.now.items
    c.loop-range.lines.items c.push_named.new.lines.items c.loop-range.invariant c.in_ok-push_named.ensures

pub returns : goal.returns
returns c =
    let start = c.args.lines.now.items in
    c.loop-range.invariant
    ∙ ap (λ ranges. start ++ flat_map (λ range. named_in (range_value range)) ranges) (take_all c.loop-range.range-index c.met-found.result.now c.loop-range-test.false)
    ∙ sym (ap (λ lines. start ++ lines) (flat_map-map named_in range_value c.met-found.result.now)) ∙ ap (λ ranges. start ++ flat_map named_in ranges) c.met-found.ensures
