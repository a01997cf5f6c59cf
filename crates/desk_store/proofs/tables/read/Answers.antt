use Rattle.std.proofs.Common.{[]}
use Rattle.sqlite.specs.Values.{bound}
use Rattle.desk_store.proofs.ChangesNothing.{changes_nothing, not_run}
use Rattle.desk_store.proofs.Reading.{not_read, reads}
use Rattle.desk_store.proofs.tables.read.Goals as goal

pub returns-in-Ok : goal.returns-in-Ok
returns-in-Ok g c all of rest look =
    reads g.S.Store all c.args.query.now (bound c.args.params.now) of look c.args.conn.now c.prepare.new.self c.query_all.new.conn _
    rest c.in-Ok.ensures.ok c.prepare.ensures.survives c.query_all.ensures.survives c.query_all.result c.query_all.ensures.ok c.query_all.ensures.err c.prepare.ensures.mode c.query_all.ensures.mode

pub returns-in-Err : goal.returns-in-Err
returns-in-Err g c all of rest look =
    not_read g.S.Store of c.args.query.now (bound c.args.params.now) c.args.conn.now c.prepare.new.self c.in-Err.e
    (changes_nothing _ _ c.prepare.ensures.mode (λ clean. not_run _ _ _ [] _ (c.in-Err.ensures.err clean [])) c.prepare.ensures.survives) (λ clean. c.in-Err.ensures.err clean (bound c.args.params.now))
