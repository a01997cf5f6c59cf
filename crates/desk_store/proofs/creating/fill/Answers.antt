use Rattle.std.proofs.Common.{map}
use Rattle.sqlite.specs.Held.{state}
use Rattle.desk_store.specs.Create.{AddsRows, Fills, MakesRoom}
use Rattle.desk_store.specs.History.{row_of}
use Rattle.desk_store.proofs.Filling.{fills}
use Rattle.desk_store.proofs.Inside.{inside_then}
use Rattle.desk_store.proofs.creating.fill.Goals as goal

pub returns-clause-filled : goal.returns-clause-filled
returns-clause-filled g c =
    let start = state g.S.Store c.args.tx.now.conn.now in
    let made = state g.S.Store c.make_tables.new.tx.conn.now in
    let end = state g.S.Store c.add_revisions.new.tx.conn.now in
    let heads = c.args.heads.now in
    inside_then start made end _ c.add_revisions.result MakesRoom (AddsRows (map row_of heads)) (Fills heads) c.in_ok-make_tables.ensures.made c.add_revisions.ensures.added (fills heads start made end)
