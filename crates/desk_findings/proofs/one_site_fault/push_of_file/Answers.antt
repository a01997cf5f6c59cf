-- The line is told with the scope and the tables of its file.
use Rattle.std.proofs.Common.{OnOk, subst}
use Rattle.desk_exports.specs.Tables.{TableRows, table_rows}
use Rattle.desk_exports.specs.declared.files.Scope.{Scope}
use Rattle.desk_findings.specs.CheckFaults.{Adds}
use Rattle.desk_findings.specs.OneFault.{TellOneWith}
use Rattle.desk_findings.specs.OneSiteFault.{scope_of}
use Rattle.desk_findings.proofs.one_site_fault.push_of_file.Goals as goal

pub returns : goal.returns
returns c =
    subst (λ (rows : TableRows). OnOk c.push_one_with.result (Adds (TellOneWith c.args.source c.args.fault (scope_of c.args.source.path.now c.args.filesystems.now) rows) c.args.found.now c.push_one_with.new.found))
    c.tables_with-tables.ensures
    (subst (λ (scope : Scope). OnOk c.push_one_with.result (Adds (TellOneWith c.args.source c.args.fault scope (table_rows c.tables_with-tables.result)) c.args.found.now c.push_one_with.new.found))
    c.scope_of-scope.ensures c.push_one_with.ensures)
