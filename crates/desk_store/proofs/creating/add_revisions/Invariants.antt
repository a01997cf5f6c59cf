use Rattle.std.proofs.Common.{◌≡◌, Ok, map, take}
use Rattle.sqlite.specs.Held.{state}
use Rattle.desk_store.specs.Create.{AddsRows, RunsInside}
use Rattle.desk_store.specs.History.{row_of}
use Rattle.desk_store.proofs.creating.add_revisions.Given as goal

abbrev pub invariant-loop-head : goal.invariant-loop-head
invariant-loop-head g l = record {
  same_reference : l.tx.conn.ghost_name ≡ l.fn.tx.conn.ghost_name;
  added : RunsInside (state g.S.Store l.fn.tx.conn.now) (state g.S.Store l.tx.conn.now) (Ok (tt {0})) (AddsRows (map row_of (take l.head-index l.heads)));
}
