use Rattle.sqlite.specs.Held.{state}
use Rattle.desk_store.proofs.Opened.{desk_opened, stands_opened}
use Rattle.desk_store.proofs.desk.Desk.open.Goals as goal

pub invariant_of-result : goal.invariant_of-result
invariant_of-result g c =
    let a = c.in-Ok.ensures in (
      c.read_state.ensures.mode,
      λ clean.
          let live = a.live clean in
          desk_opened (state g.S.Store c.args.conn) (state g.S.Store c.read_state.new.conn) c.in-Ok.current (a.opened clean) (a.sound clean)
          (λ trees may. g.met.S.Store.settled c.read_state.new.conn.store trees live may) (a.project clean) (a.rest clean) (a.keyed clean),
      a.proposals_once,
    )

pub returns-in-Ok-clause-opened : goal.returns-in-Ok-clause-opened
returns-in-Ok-clause-opened g c clean =
    let a = c.in-Ok.ensures in
    let live = a.live clean in
    let found = a.project clean in (
      (found.0, found.1),
      stands_opened (state g.S.Store c.args.conn) (state g.S.Store c.read_state.new.conn) c.in-Ok.current (a.opened clean) (a.sound clean)
          (λ trees may. g.met.S.Store.settled c.read_state.new.conn.store trees live may) found,
    )

pub returns-in-Ok-clause-durable : goal.returns-in-Ok-clause-durable
returns-in-Ok-clause-durable g c clean =
    let live = c.in-Ok.ensures.live clean in
    (live, λ trees may. g.met.S.Store.settled c.read_state.new.conn.store trees live may)
