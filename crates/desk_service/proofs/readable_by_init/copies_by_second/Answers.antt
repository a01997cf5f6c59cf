-- One copy more stands behind those before it.
use Rattle.std.proofs.Common.{◌∙◌, ap, map}
use Rattle.std.proofs.lemmas.List.{take_all}
use Rattle.desk_service.specs.ReadableByInit.{second}
use Rattle.desk_service.proofs.SecondReading.{mapped_more}
use Rattle.desk_service.proofs.readable_by_init.copies_by_second.Goals as goal

pub loop-head-preserved : goal.loop-head-preserved
loop-head-preserved c =
    mapped_more second c.args.heads.now c.loop-head.head-index c.head-item.result c.loop-head-test.true c.head-item.is
    c.loop-head.copies.items c.push_second.new.copies.items c.loop-head.invariant c.in_ok-push_second.ensures

pub returns : goal.returns
returns c = c.loop-head.invariant ∙ ap (map second) (take_all c.loop-head.head-index c.args.heads.now c.loop-head-test.false)
