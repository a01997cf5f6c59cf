use Rattle.std.proofs.Common.{◌≡◌, ◌∙◌, ap, subst, sym}
use Rattle.std.specs.Prelude.{IfOk, List, None, Some}
use Rattle.desk_tables.specs.FileSystems.{fs_of}
use Rattle.desk_policy.specs.Policy.{Content, rows_of}
use Rattle.desk_policy.specs.declared.row.Row.{Row}
use Rattle.desk_who.specs.Starts.{AreStarts}
use Rattle.desk_who.proofs.Steady.{none_found, number_found}
use Rattle.desk_server_prints.specs.Listing.{AreVerdictStarts}
use Rattle.desk_server_prints.proofs.FirstClient.{here, nowhere}
use Rattle.desk_server_prints.proofs.listing.verdict_starts.Goals as goal

pub returns-in-Some : goal.returns-in-Some
returns-in-Some c =
    let content = c.args.index.now in
    let path = c.args.path.now in
    let fs = c.in-Some.fs in
    let home : fs_of content.table path ≡ Some fs.0 =
    ap (λ table. fs_of table path) (sym (c.filesystems.ensures ∙ ap (λ (policy : Content). policy.table) c.policy-policy.ensures)) ∙ number_found _ fs c.in-Some.ensures in
    here content path fs.0 c.starts_among.result home
    (subst (λ (rows : List Row). IfOk c.starts_among.result (AreStarts rows)) (c.rows.ensures ∙ ap (λ (policy : Content). rows_of policy fs.0) c.policy-policy.ensures) c.starts_among.ensures)

pub returns-in-None : goal.returns-in-None
returns-in-None c =
    let content = c.args.index.now in
    let path = c.args.path.now in
    let home : fs_of content.table path ≡ None =
    ap (λ table. fs_of table path) (sym (c.filesystems.ensures ∙ ap (λ (policy : Content). policy.table) c.policy-policy.ensures)) ∙ none_found _ c.in-None.ensures in
    subst (AreVerdictStarts content path) (sym c.new.ensures) (nowhere content path home)
