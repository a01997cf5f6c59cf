-- The rows that were given so far are gathered, and nothing has changed.
use Rattle.std.proofs.Common.{◌≡◌, false, List, []}
use Rattle.sqlite.specs.Given.{HasGiven, IsPlain}
use Rattle.sqlite.specs.Held.{state}
use Rattle.sqlite.specs.Listing.{understood}
use Rattle.sqlite.specs.Order.{Row}
use Rattle.sqlite.specs.State.{HasCleanDisk, IsUnchanged, Survives}
use Rattle.desk_store.specs.PrivateGatheredRevisions.{IsGathered}
use Rattle.desk_store.proofs.tables.gather_shown.Given as goal

abbrev pub invariant-rows : goal.invariant-rows
invariant-rows g l =
    let old = l.fn.conn in
    let now = l.rows.conn.now in
    (l.rows.conn.ghost_name ≡ l.initial.rows.conn.ghost_name) × (old.in_transaction ≡ false → now.in_transaction ≡ false)
    × ((given : List Row) × IsGathered given l.gathered
    × ((HasCleanDisk (state g.S.Store old) → IsPlain (understood old.schema l.select.text)) → Survives (state g.S.Store old) (state g.S.Store now) (λ _. ⊥)
    × (HasCleanDisk (state g.S.Store now) → IsUnchanged (state g.S.Store old) (state g.S.Store now) × HasGiven g.S.Store l.select.text [] now given)))
