-- The mount point is found by its printed form.
use Rattle.std.proofs.Common.{◌≡◌, ◌∙◌, ℕ, IfOk, Option, Some, ap, subst, sym}
use Rattle.desk_policy.specs.Policy.{Content}
use Rattle.desk_server_notes.specs.MountFindings.{AreRepeatedOf, filesystem_at}
use Rattle.desk_server_notes.proofs.Placing.{placed}
use Rattle.desk_server_notes.proofs.mount_findings.repeated_at.Goals as goal

pub returns-in-Some : goal.returns-in-Some
returns-in-Some c =
    let content = c.args.index.now in
    let mount = c.args.mount.now in
    let fs = c.in-Some.fs in
    let home : filesystem_at content mount ≡ Some fs.0 =
    placed content mount c.filesystems.result.now c.text.result.now fs (c.filesystems.ensures ∙ ap (λ (policy : Content). policy.table) c.policy.ensures) c.text.ensures.printed c.in-Some.ensures in
    subst (λ (o : Option ℕ). IfOk c.repeated_clients.result (λ found. AreRepeatedOf content o found.items)) (sym home) c.repeated_clients.ensures
