use Rattle.std.proofs.Common.{◌∙◌, ◌<◌, List, ap, length, subst, sym}
use Rattle.std.proofs.lemmas.Result.{err_from_is_err_and}
use Rattle.desk_tables.specs.declared.filesystems.Mount.{Mount}
use Rattle.desk_policy.specs.Policy.{Content, content_of_lines}
use Rattle.desk_policy.specs.View.{Builds}
use Rattle.desk_core.specs.PrivateState.{site_with}
use Rattle.desk_core.proofs.LinesAlone.{lines_shown, none_shown}
use Rattle.desk_core.proofs.state.State.view_of_lines.Goals as goal

pub returns-in_err-rows : goal.returns-in_err-rows
returns-in_err-rows g c =
    let state = c.args.self.now in
    let new = site_with state c.args.file.now c.args.text.now in
    let p = err_from_is_err_and c.from_residual.result c.from_residual.ensures.1 in
    rw (p.1, p.2) (none_shown g.V.PolicyView.in_force state c.args.fs.0 new c.in_err-rows.field-0.0 c.in_err-rows.ensures)

pub of_lines-requires-clause-fs : goal.of_lines-requires-clause-fs
of_lines-requires-clause-fs g c =
    let table = c.filesystems.ensures ∙ ap (λ (k : Content). k.table) (c.policy.ensures ∙ ap (λ s. g.V.PolicyView.in_force s.view) c.self.view_is) in
    subst (λ (ms : List Mount). c.args.fs.0 < length ms) (sym (c.in_ok-filesystems.ensures ∙ table)) c.in_ok-rows.ensures.file_system

pub returns : goal.returns
returns g c =
    let F = g.V.PolicyView.in_force in
    let state = c.args.self.now in
    let new = site_with state c.args.file.now c.args.text.now in
    let table = c.filesystems.ensures ∙ ap (λ (k : Content). k.table) (c.policy.ensures ∙ ap (λ s. F s.view) c.self.view_is) in
    let policy = c.in_ok-policy.ensures ∙ ap (λ (ms : List Mount). content_of_lines ms c.args.fs.0 c.in_ok-rows.rows) (c.in_ok-filesystems.ensures ∙ table) in
    lines_shown F state c.args.fs.0 new c.in_ok-rows.rows c.build.result c.in_ok-rows.ensures (subst (λ (k : Content). Builds F k c.build.result) policy c.build.ensures)
