use Rattle.std.proofs.Common.{ap, ◌∙◌, Some}
use Rattle.desk_exports.specs.Tables.{table_rows}
use Rattle.desk_exports.proofs.FaultLemmas.{fault_by_rules}
use Rattle.desk_exports.proofs.faults.words_fault.Goals as goal

pub returns-in-Ok-clause-fault : goal.returns-in-Ok-clause-fault
returns-in-Ok-clause-fault c =
    fault_by_rules (table_rows c.args.tables.now) c.args.scope c.args.line.now.number c.args.grammar.now c.home_of-own_fs.result _ c.home_of-own_fs.ensures c.in-Ok.ensures

pub returns-in_ok-place-in-Err-clause-fault : goal.returns-in_ok-place-in-Err-clause-fault
returns-in_ok-place-in-Err-clause-fault c =
    ap (λ fault. Some fault) c.make_fault.ensures.fault
    ∙ fault_by_rules (table_rows c.args.tables.now) c.args.scope c.args.line.now.number c.args.grammar.now c.home_of-own_fs.result _ c.home_of-own_fs.ensures c.in-Err.ensures
