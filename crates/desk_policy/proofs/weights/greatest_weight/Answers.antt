use Rattle.std.proofs.Common.{take}
use Rattle.std.proofs.lemmas.List.{take_more}
use Rattle.desk_policy.proofs.GreatestWeight.{IsGreatest-push}
use Rattle.desk_policy.proofs.weights.greatest_weight.Goals as goal

pub loop-row-preserved : goal.loop-row-preserved
loop-row-preserved c =
    let row = c.row-item.result in
    rw (c.greater-greatest.ensures, c.weight_of.ensures, take_more c.args.rows.now c.loop-row.row-index row c.loop-row-test.true, ← c.row-item.is)
    (IsGreatest-push (take c.loop-row.row-index c.args.rows.now) c.args.address.number row c.loop-row.greatest c.loop-row.invariant)
