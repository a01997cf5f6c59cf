use Rattle.std.proofs.Common.{Some, arith, subst, true}
use Rattle.sqlite.specs.Held.{state}
use Rattle.sqlite.specs.State.{HasCleanDisk}
use Rattle.desk_store.specs.Looks.{SeesTables}
use Rattle.desk_store.proofs.ChangesNothing.{early, same_after}
use Rattle.desk_store.proofs.OpeningSaid.{later_memory, later_so}
use Rattle.desk_store.proofs.RowsRead.{ok_always}
use Rattle.desk_store.proofs.database.read_state.Goals as goal

pub returns-in-Ok-Second-clause-rest : goal.returns-in-Ok-Second-clause-rest
returns-in-Ok-Second-clause-rest g c clean =
    let before = state g.S.Store c.args.conn.now in
    let found = state g.S.Store c.find_tables.new.conn in
    let look = c.read_second.ensures.look in
    let seen = subst (λ version. SeesTables before found (Some version)) c.in-Ok-Second.field-0-is (c.in-Ok-Second.ensures.seen (early found (state g.S.Store c.read_second.new.conn) look clean)) in
    ok_always c.read_second.result (look.rest clean true seen.0)

pub returns-in-Ok-Second-clause-said : goal.returns-in-Ok-Second-clause-said
returns-in-Ok-Second-clause-said g c clean =
    let before = c.args.conn.now in
    let found = c.find_tables.new.conn in
    let new = c.read_second.new.conn in
    let look = c.find_tables.ensures.look in
    let clean_found = early (state g.S.Store found) (state g.S.Store new) c.read_second.ensures.look clean in
    let same = same_after (state g.S.Store before) (state g.S.Store found) look clean_found (c.in-Ok-Second.ensures.live clean_found) in
    later_so g.S.Store before found new look.leaves.crash same c.read_second.result (c.read_second.ensures.said clean)

pub returns-in-Ok-Second-clause-memory : goal.returns-in-Ok-Second-clause-memory
returns-in-Ok-Second-clause-memory g c clean is =
    let before = c.args.conn.now in
    let found = c.find_tables.new.conn in
    let new = c.read_second.new.conn in
    let look = c.find_tables.ensures.look in
    let clean_found = early (state g.S.Store found) (state g.S.Store new) c.read_second.ensures.look clean in
    let same = same_after (state g.S.Store before) (state g.S.Store found) look clean_found (c.in-Ok-Second.ensures.live clean_found) in
    later_memory g.S.Store before found new look.leaves.crash same (c.read_second.ensures.memory clean is)

pub returns-in-Ok-First-clause-said : goal.returns-in-Ok-First-clause-said
returns-in-Ok-First-clause-said g c clean =
    let before = c.args.conn.now in
    let found = c.find_tables.new.conn in
    let new = c.read_and_migrate.new.conn in
    let look = c.find_tables.ensures.look in
    let clean_found : HasCleanDisk (state g.S.Store found) = omega (arith, clean, c.read_and_migrate.ensures.crash.clean) in
    let same = same_after (state g.S.Store before) (state g.S.Store found) look clean_found (c.in-Ok-First.ensures.live clean_found) in
    later_so g.S.Store before found new look.leaves.crash same c.read_and_migrate.result (c.read_and_migrate.ensures.said clean)

pub returns-in-Ok-First-clause-memory : goal.returns-in-Ok-First-clause-memory
returns-in-Ok-First-clause-memory g c clean is =
    let before = c.args.conn.now in
    let found = c.find_tables.new.conn in
    let new = c.read_and_migrate.new.conn in
    let look = c.find_tables.ensures.look in
    let clean_found : HasCleanDisk (state g.S.Store found) = omega (arith, clean, c.read_and_migrate.ensures.crash.clean) in
    let same = same_after (state g.S.Store before) (state g.S.Store found) look clean_found (c.in-Ok-First.ensures.live clean_found) in
    later_memory g.S.Store before found new look.leaves.crash same (c.read_and_migrate.ensures.memory clean is)
