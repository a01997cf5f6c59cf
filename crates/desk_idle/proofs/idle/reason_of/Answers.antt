use Rattle.std.proofs.Common.{sym}
use Rattle.desk_text.specs.Address.{number_of}
use Rattle.desk_policy.specs.Policy.{rows_of}
use Rattle.desk_idle.proofs.Matching.{some_first}
use Rattle.desk_idle.proofs.idle.reason_of.Goals as goal

pub unreachable-requires : goal.unreachable-requires
unreachable-requires c =
    let m = c.in-Some-least_match.ensures in
    some_first (rows_of c.args.index.now c.args.fs.0) c.args.row.now (number_of c.in-Some-least_match.address) c.requires.row m.matches (sym c.in-None.ensures)
