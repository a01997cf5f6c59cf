use Rattle.std.proofs.Common.{◌++◌, ◌∙◌, ap}
use Rattle.desk_policy.specs.Warning.{netgroup_warnings}
use Rattle.desk_policy.proofs.FilesRead.{content_pushed, policy_pushed}
use Rattle.desk_policy.proofs.parsing.push_policy.Goals as goal

pub returns-clause-read : goal.returns-clause-read
returns-clause-read c =
    let site_tables = c.args.site_tables.now in
    let own = c.in_ok-push_netgroup.ensures ∙ ap (λ ws. ws ++ netgroup_warnings site_tables.netgroups site_tables.hosts) c.requires.warnings in
    policy_pushed c.args.filesystems.now site_tables _ c.push_files.result _ _ _ _ c.requires.rows own c.push_files.ensures

pub returns-clause-content : goal.returns-clause-content
returns-clause-content c = content_pushed c.args.filesystems.now _ c.push_files.result _ _ _ _ c.requires.rows c.push_files.ensures
