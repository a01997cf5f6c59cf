use Rattle.std.proofs.Common.{take}
use Rattle.std.proofs.lemmas.List.{take_more}
use Rattle.desk_text.specs.Address.{number_of}
use Rattle.desk_server_prints.proofs.Widest.{one_more}
use Rattle.desk_server_prints.proofs.granting_line.greatest_wider.Goals as goal

pub loop-row-preserved : goal.loop-row-preserved
loop-row-preserved c =
    let row = c.row-item.result in
    rw (c.greater-greatest.ensures, c.wider_weight.ensures, take_more c.args.rows.now c.loop-row.row-index row c.loop-row-test.true, ← c.row-item.is)
    (one_more (number_of c.args.address) c.args.path.now (take c.loop-row.row-index c.args.rows.now) row c.loop-row.greatest c.loop-row.invariant)
