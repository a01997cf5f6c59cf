use Rattle.std.proofs.Common.{arith, false, inr}
use Rattle.sqlite.specs.Held.{state}
use Rattle.sqlite.specs.State.{HasCleanDisk}
use Rattle.desk_store.proofs.ChangesNothing.{rest_after, same_after}
use Rattle.desk_schema.specs.declared.declared.Version.TheVariants.{First}
use Rattle.desk_store.specs.declared.error.Task.TheVariants as tasks
use Rattle.desk_store.proofs.Migrating.{keyed_migrated}
use Rattle.desk_store.proofs.OpeningSaid.{later_told, told_error}
use Rattle.desk_store.proofs.database.read_and_migrate.Goals as goal

pub migrate-requires-clause-rest : goal.migrate-requires-clause-rest
migrate-requires-clause-rest g c = rest_after false (state g.S.Store c.args.conn.now) (state g.S.Store c.read_first.new.conn) c.read_first.ensures.look c.requires.rest

pub returns-in-Ok-migrate-clause-keyed : goal.returns-in-Ok-migrate-clause-keyed
returns-in-Ok-migrate-clause-keyed g c clean =
    let before = state g.S.Store c.args.conn.now in
    let read = state g.S.Store c.read_first.new.conn in
    let made = c.in-Ok-migrate.ensures.migrated in
    let early : HasCleanDisk read = omega (arith, clean, made.crash.clean) in
    let found = c.in-Ok.ensures.history early in
    keyed_migrated before.committed read.committed (state g.S.Store c.migrate.new.conn).committed found.0 (same_after before read c.read_first.ensures.look early (c.in-Ok.ensures.live early)) (made.made clean) found.2

pub returns-in-Err-migrate-clause-said : goal.returns-in-Err-migrate-clause-said
returns-in-Err-migrate-clause-said g c clean =
    let old = c.args.conn.now in
    let read = c.read_first.new.conn in
    let new = c.migrate.new.conn in
    let look = c.read_first.ensures.look in
    let early : HasCleanDisk (state g.S.Store read) = omega (arith, clean, c.in-Err-migrate.ensures.migrated.crash.clean) in
    let same = same_after (state g.S.Store old) (state g.S.Store read) look early (c.in-Ok.ensures.live early) in
    later_told g.S.Store old read new look.leaves.crash same c.not_stored.result
    (told_error g.S.Store read new tasks.Migrate c.in-Err-migrate.e c.not_stored.result c.not_stored.ensures.named (c.in-Err-migrate.ensures.said clean))

pub returns-in-Err-migrate-clause-memory : goal.returns-in-Err-migrate-clause-memory
returns-in-Err-migrate-clause-memory g c clean is =
    let early : HasCleanDisk (state g.S.Store c.read_first.new.conn) = omega (arith, clean, c.in-Err-migrate.ensures.migrated.crash.clean) in
    inr (First, (c.in-Ok.ensures.history early).2.version)
