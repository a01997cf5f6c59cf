use Rattle.std.proofs.Common.{[], inl}
use Rattle.std.proofs.lemmas.Result.{err_from_is_err_and}
use Rattle.desk_store.specs.Looks.{select_nothing}
use Rattle.desk_store.proofs.ChangesNothing.{changes_nothing, not_run}
use Rattle.desk_store.proofs.Reading.{said_unprepared}
use Rattle.desk_store.proofs.tables.seen_tables.Goals as goal

pub returns-then-not-is_autocommit-clause-look : goal.returns-then-not-is_autocommit-clause-look
returns-then-not-is_autocommit-clause-look g c = changes_nothing _ _ c.prepare.ensures.mode (λ clean. inl (c.in_ok-prepare.ensures.ok clean).1) c.prepare.ensures.survives

pub returns-clause-look : goal.returns-clause-look
returns-clause-look g c = changes_nothing _ _ c.prepare.ensures.mode (λ clean. inl (c.in_ok-prepare.ensures.ok clean).1) c.prepare.ensures.survives

pub returns-in_err-prepare-clause-look : goal.returns-in_err-prepare-clause-look
returns-in_err-prepare-clause-look g c = changes_nothing _ _ c.prepare.ensures.mode (λ clean. not_run _ _ _ [] _ (c.in_err-prepare.ensures.err clean [])) c.prepare.ensures.survives

pub returns-in_err-prepare-clause-said : goal.returns-in_err-prepare-clause-said
returns-in_err-prepare-clause-said g c clean =
    let p = err_from_is_err_and c.from_residual.result c.from_residual.ensures.1 in
    rw (p.1, p.2) (said_unprepared g.S.Store select_nothing [] c.args.conn.now c.prepare.new.self c.in_err-prepare.field-0.0 (c.in_err-prepare.ensures.err clean []))
