-- Before the desk is asked it is as it was; then the reply is that to its answer.
use Rattle.std.proofs.Common.{◌+◌, refl}
use Rattle.std.specs.String.{string_bytes}
use Rattle.desk_core.specs.Edit.{asked}
use Rattle.desk_store.specs.Desk.{HasGoodDisk, StandsAt}
use Rattle.desk_http.proofs.AnswerLemmas.{unasked_edit}
use Rattle.desk_http.proofs.EditLemmas.{failed_err, failed_text, put_ok}
use Rattle.desk_http.proofs.edits.answer_edit.Goals as goal

pub returns-in_err-replies-clause-err : goal.returns-in_err-replies-clause-err
returns-in_err-replies-clause-err g c = unasked_edit (HasGoodDisk g.S.Store) (StandsAt g.S.Store) c.from_residual.result (asked c.args.edit.now) c.args.desk.now

pub returns-in-Ok-clause-ok : goal.returns-in-Ok-clause-ok
returns-in-Ok-clause-ok g c =
    put_ok g.S.Store c.args.desk.now c.put.new.desk (asked c.args.edit.now) string_bytes _ c.args.ends (c.args.edit.now.base + 1) refl
    c.in_ok-replies.ensures c.in-Ok.text c.in-Ok.ensures

pub returns-in-Err-clause-ok : goal.returns-in-Err-clause-ok
returns-in-Err-clause-ok g c =
    failed_text g.S.Store c.args.desk.now c.put.new.desk (asked c.args.edit.now) string_bytes c.failed_text.result _ c.in-Err.error c.args.ends c.in-Err.ensures c.failed_text.ensures

pub returns-in-Err-clause-err : goal.returns-in-Err-clause-err
returns-in-Err-clause-err g c =
    failed_err g.S.Store c.args.desk.now c.put.new.desk (asked c.args.edit.now) c.failed_text.result _ c.in-Err.error c.in-Err.ensures
