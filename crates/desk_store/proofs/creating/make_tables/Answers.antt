use Rattle.sqlite.specs.Held.{state}
use Rattle.sqlite.specs.State.{State}
use Rattle.desk_store.specs.Create.{MakesLater, MakesRoom, Ran, insert_version}
use Rattle.desk_schema.specs.Tables.{create_file_rev, create_meta}
use Rattle.desk_store.proofs.Inside.{inside_then}
use Rattle.desk_store.proofs.Making.{made_room}
use Rattle.desk_store.proofs.creating.make_tables.Goals as goal

pub returns-clause-made : goal.returns-clause-made
returns-clause-made g c =
    let start = state g.S.Store c.args.tx.now.conn.now in
    let one = state g.S.Store c.run.new.tx.conn.now in
    let two = state g.S.Store c.run-2.new.tx.conn.now in
    let three = state g.S.Store c.make_later.new.tx.conn.now in
    let end = state g.S.Store c.run-3.new.tx.conn.now in
    let First : State → State → Type 0 = λ s t. Ran create_meta s one × Ran create_file_rev one t in
    let Later : State → State → Type 0 = λ s t. First s two × MakesLater two t in
    let first = inside_then start one two _ _ (Ran create_meta) (Ran create_file_rev) First c.in_ok-run.ensures.ran c.in_ok-run-2.ensures.ran (λ a b. (a, b)) in
    let later = inside_then start two three _ _ First MakesLater Later first c.in_ok-make_later.ensures.made (λ a b. (a, b)) in
    inside_then start three end _ c.run-3.result Later (Ran insert_version) MakesRoom later c.run-3.ensures.ran (λ before last. made_room start one two three end before.0.0 before.0.1 before.1 last)
