use Rattle.std.proofs.Common.{◌≡◌, [], refl}
use Rattle.std.proofs.lemmas.Result.{err_from_is_err_and}
use Rattle.desk_store.specs.Error.{Statement, Step}
use Rattle.desk_store.proofs.Said.{said_now}
use Rattle.desk_store.proofs.creating.run.Goals as goal

pub returns-in_err-execute-clause-said : goal.returns-in_err-execute-clause-said
returns-in_err-execute-clause-said g c on clean =
    let own : Statement = Step c.args.text.now [] in
    let p = err_from_is_err_and c.from_residual.result c.from_residual.ensures.1 in
    rw (p.1, p.2) (said_now g.S.Store (λ (s : Statement). s ≡ own) c.args.tx.now.conn.now c.execute.new.self.conn.now own c.in_err-execute.field-0.0 refl (c.in_err-execute.ensures.runs clean on))
