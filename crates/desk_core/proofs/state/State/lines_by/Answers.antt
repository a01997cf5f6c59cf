use Rattle.std.proofs.Common.{◌<◌, sym, subst, Err, Ok, length}
use Rattle.std.proofs.lemmas.Result.{err_from_is_err_and}
use Rattle.desk_policy.specs.View.{MakesPart}
use Rattle.desk_core.specs.PrivateState.{site_with}
use Rattle.desk_core.proofs.OneFile.{lines_put, lines_refused, none_read}
use Rattle.desk_core.proofs.state.State.lines_by.Goals as goal

pub returns-in_err-rows : goal.returns-in_err-rows
returns-in_err-rows g c =
    let state = c.args.self.now in
    let new = site_with state c.args.file.now c.args.text.now in
    let p = err_from_is_err_and c.from_residual.result c.from_residual.ensures.1 in
    rw (p.1, p.2) (none_read g.V.PolicyView.in_force g.V.PolicyView.part_rows state c.args.fs.0 new c.args.file.now c.in_err-rows.field-0.0 c.in_err-rows.ensures)

pub part-requires-clause-fs : goal.part-requires-clause-fs
part-requires-clause-fs g c = subst (λ s. c.args.fs.0 < length (g.V.PolicyView.in_force s.view).table) (sym c.self.view_is) c.in_ok-rows.ensures.file_system

pub returns-in_err-part : goal.returns-in_err-part
returns-in_err-part g c =
    let F = g.V.PolicyView.in_force in
    let state = c.args.self.now in
    let new = site_with state c.args.file.now c.args.text.now in
    let error = c.in_err-part.field-0.0 in
    let made = subst (λ s. MakesPart g.V.PolicyView.part_rows (F s.view) c.args.fs.0 c.in_ok-rows.rows (Err error)) c.self.view_is c.in_err-part.ensures in
    let p = err_from_is_err_and c.from_residual-in_err-part.result c.from_residual-in_err-part.ensures.1 in
    rw (p.1, p.2) (lines_refused F g.V.PolicyView.part_rows state c.args.fs.0 new c.args.file.now c.in_ok-rows.rows error c.in_ok-rows.ensures made)

pub returns : goal.returns
returns g c =
    let F = g.V.PolicyView.in_force in
    let state = c.args.self.now in
    let new = site_with state c.args.file.now c.args.text.now in
    let made = subst (λ s. MakesPart g.V.PolicyView.part_rows (F s.view) c.args.fs.0 c.in_ok-rows.rows (Ok c.in_ok-part.part)) c.self.view_is c.in_ok-part.ensures in
    (c.requires.place, lines_put F g.V.PolicyView.part_rows state c.args.fs.0 new c.in_ok-rows.rows c.in_ok-part.part c.in_ok-rows.ensures made)
