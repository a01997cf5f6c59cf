use Rattle.std.proofs.Common.{◌+◌, ◌∙◌, [], arith, map, take, Ok, rules}
use Rattle.sqlite.specs.Held.{state}
use Rattle.desk_store.specs.Create.{AddsRow, AddsRows}
use Rattle.desk_store.specs.History.{row_of}
use Rattle.desk_store.proofs.Entries.{writes_nothing}
use Rattle.desk_store.proofs.Filling.{rows_next}
use Rattle.desk_store.proofs.Inside.{failed_then, inside_then, no_step}
use Rattle.desk_store.proofs.creating.add_revisions.Goals as goal

pub loop-head-init : goal.loop-head-init
loop-head-init g c = record { same_reference = search rules; added = no_step (state g.S.Store c.args.tx.now.conn.now) (tt {0}) (AddsRows []) c.requires (λ clean has sound. writes_nothing (state g.S.Store c.args.tx.now.conn.now).now sound) }

pub loop-head-preserved : goal.loop-head-preserved
loop-head-preserved g c =
    let start = state g.S.Store c.args.tx.now.conn.now in
    let before = state g.S.Store c.loop-head.tx.conn.now in
    let after = state g.S.Store c.add_revision.new.tx.conn.now in
    let heads = c.args.heads.now in
    let i = c.loop-head.head-index in
    record {
      same_reference = c.in_ok-add_revision.ensures.same_reference ∙ c.loop-head.invariant.same_reference;
      added = inside_then start before after (tt {0}) (Ok (tt {0})) (AddsRows (map row_of (take i heads))) (AddsRow (row_of c.head-item.result)) (AddsRows (map row_of (take (i + 1) heads))) c.loop-head.invariant.added
          c.in_ok-add_revision.ensures.added (rows_next start before after heads i c.head-item.result (omega arith) c.head-item.is);
    }

pub returns-in_err-add_revision-clause-added : goal.returns-in_err-add_revision-clause-added
returns-in_err-add_revision-clause-added g c =
    failed_then (state g.S.Store c.args.tx.now.conn.now) (state g.S.Store c.loop-head.tx.conn.now) (state g.S.Store c.add_revision.new.tx.conn.now) (tt {0}) c.in_err-add_revision.field-0.0 c.from_residual.result
    (AddsRows (map row_of (take c.loop-head.head-index c.args.heads.now))) (AddsRow (row_of c.head-item.result)) (AddsRows (map row_of c.args.heads.now)) c.loop-head.invariant.added c.in_err-add_revision.ensures.added c.from_residual.ensures.0
