use Rattle.std.proofs.Common.{◌∙◌, [], sym, subst}
use Rattle.sqlite.specs.Held.{state}
use Rattle.desk_store.specs.Create.{HasRoom}
use Rattle.desk_store.proofs.ChangesNothing.{not_run}
use Rattle.desk_store.proofs.Room.{no_room, not_looked, one_there, room_there}
use Rattle.desk_store.proofs.creating.look_for_room.Goals as goal

pub returns-in-Err : goal.returns-in-Err
returns-in-Err g c =
    not_looked (state g.S.Store c.args.conn.now) (state g.S.Store c.prepare.new.self) (c.prepare.ensures.mode c.requires.autocommit) c.prepare.ensures.survives c.not_made.result
    (λ clean. not_run _ _ _ [] _ (c.in-Err.ensures.err clean [])) c.not_made.ensures

pub returns-then-sees_one : goal.returns-then-sees_one
returns-then-sees_one g c =
    one_there (state g.S.Store c.args.conn.now) (state g.S.Store c.prepare.new.self) (c.prepare.ensures.mode c.requires.autocommit) c.prepare.ensures.survives (λ clean. (c.in_default.ensures.ok clean).1) c.sees_one.ensures.settled
    (sym c.sees_one.ensures.one ∙ c.if-sees_one.true)

pub returns-then-has_room : goal.returns-then-has_room
returns-then-has_room g c =
    let room : HasRoom c.schema.result.now = c.has_room.ensures c.if-has_room.true in
    room_there (state g.S.Store c.args.conn.now) (state g.S.Store c.prepare.new.self) (c.prepare.ensures.mode c.requires.autocommit) c.prepare.ensures.survives (λ clean. (c.in_default.ensures.ok clean).1) c.sees_one.ensures.settled
    (tt {0}) (sym c.sees_one.ensures.one ∙ c.if-sees_one.false) (subst HasRoom c.schema.ensures.value room)

pub returns-else-has_room : goal.returns-else-has_room
returns-else-has_room g c =
    no_room (state g.S.Store c.args.conn.now) (state g.S.Store c.prepare.new.self) (c.prepare.ensures.mode c.requires.autocommit) c.prepare.ensures.survives (λ clean. (c.in_default.ensures.ok clean).1) c.sees_one.ensures.settled
    c.not_made-else-has_room.result c.not_made-else-has_room.ensures
