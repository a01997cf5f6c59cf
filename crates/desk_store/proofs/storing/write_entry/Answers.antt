use Rattle.std.proofs.Common.{◌≡◌, sym, subst, Ok, [], ◌∷◌, arith}
use Rattle.std.specs.Prelude.{Contains, IfErr}
use Rattle.std.proofs.lemmas.Result.{err_from_is_err_and}
use Rattle.sqlite.specs.Held.{state}
use Rattle.sqlite.specs.State.{HasCleanDisk, State}
use Rattle.sqlite.specs.declared.types.Value.TheVariants.{Text as Words}
use Rattle.desk_core.specs.declared.entry.Entry.{Entry}
use Rattle.desk_core.specs.declared.entry.Entry.TheVariants.{Revised, Proposed}
use Rattle.desk_store.specs.Create.{AddsRow, RunsInside}
use Rattle.desk_store.specs.Error.{IsSaid, Step}
use Rattle.desk_store.specs.History.{approval_of, proposed_row, row_of}
use Rattle.desk_store.specs.Storing.{AddsApproval, AddsProposal, TakesProposal, WritesEntry, statements_of}
use Rattle.desk_schema.specs.Tables.{HasTables}
use Rattle.desk_store.specs.Tables.{delete_proposal}
use Rattle.std.specs.List.{cons_option}
use Rattle.desk_store.proofs.Entries.{stores_proposed, stores_revised}
use Rattle.desk_store.proofs.Inside.{inside_then, same_survives}
use Rattle.desk_store.proofs.Said.{both, fails_last, of_approval, of_delete, of_delete_first, of_insert, of_proposal, said_in, said_widely}
use Rattle.desk_store.proofs.storing.write_entry.Goals as goal

pub returns-in_ok-add_revision-in-Revised-clause-written : goal.returns-in_ok-add_revision-in-Revised-clause-written
returns-in_ok-add_revision-in-Revised-clause-written g c =
    let start = state g.S.Store c.args.tx.now.conn.now in
    let without = state g.S.Store c.take_proposal.new.tx.conn.now in
    let revised = state g.S.Store c.add_revision.new.tx.conn.now in
    let end = state g.S.Store c.add_approval.new.tx.conn.now in
    let r = c.in-Revised.head in
    let took : RunsInside start without (Ok (tt {0})) (TakesProposal r.file) = subst (λ file. RunsInside start without (Ok (tt {0})) (TakesProposal file)) c.as_str.ensures c.in_ok-take_proposal-in-Revised.ensures.taken in
    let both = inside_then start without revised _ (Ok (tt {0})) (TakesProposal r.file) (AddsRow (row_of r)) (λ (s t : State). TakesProposal r.file s without × AddsRow (row_of r) without t) took c.in_ok-add_revision-in-Revised.ensures.added (λ a b. (a, b)) in
    subst (λ entry. RunsInside start end c.add_approval.result (WritesEntry entry)) (sym c.in-Revised.is) (
    inside_then start revised end _ c.add_approval.result (λ (s t : State). TakesProposal r.file s without × AddsRow (row_of r) without t) (AddsApproval (approval_of r)) (WritesEntry (Revised r)) both c.add_approval.ensures.added
    (λ first last has keyed.
    let taken = first.0 has keyed in
    let has_still = subst HasTables (sym taken.schema) has in
    let added = first.1 has_still in
    stores_revised start.now without.now revised.now end.now r.file (row_of r) (cons_option (approval_of r) []) taken added (last (subst HasTables (sym added.schema) has_still) added.sound)))

pub returns-in_ok-take_proposal-in-Proposed-clause-written : goal.returns-in_ok-take_proposal-in-Proposed-clause-written
returns-in_ok-take_proposal-in-Proposed-clause-written g c =
    let start = state g.S.Store c.args.tx.now.conn.now in
    let without = state g.S.Store c.take_proposal-in-Proposed.new.tx.conn.now in
    let end = state g.S.Store c.add_proposal.new.tx.conn.now in
    let p = c.in-Proposed.proposal in
    let took : RunsInside start without (Ok (tt {0})) (TakesProposal p.file) = subst (λ file. RunsInside start without (Ok (tt {0})) (TakesProposal file)) c.as_str-in-Proposed.ensures c.in_ok-take_proposal-in-Proposed.ensures.taken in
    subst (λ entry. RunsInside start end c.add_proposal.result (WritesEntry entry)) (sym c.in-Proposed.is) (
    inside_then start without end _ c.add_proposal.result (TakesProposal p.file) (AddsProposal (proposed_row p)) (WritesEntry (Proposed p)) took c.add_proposal.ensures.added
    (λ first last has keyed.
    let taken = first has keyed in
    stores_proposed start.now without.now end.now p.file (proposed_row p) taken (last (subst HasTables (sym taken.schema) has))))

pub returns-in_err-take_proposal-in-Revised-clause-said : goal.returns-in_err-take_proposal-in-Revised-clause-said
returns-in_err-take_proposal-in-Revised-clause-said g c on clean =
    let start = c.args.tx.now.conn.now in
    let end = c.take_proposal.new.tx.conn.now in
    let r = c.in-Revised.head in
    let e = c.in_err-take_proposal-in-Revised.field-0.0 in
    let said = subst (λ file. IsSaid g.S.Store (λ s. s ≡ Step delete_proposal (Words file ∷ [])) start end e) c.as_str.ensures (c.in_err-take_proposal-in-Revised.ensures.said on clean) in
    let p = err_from_is_err_and c.from_residual.result c.from_residual.ensures.1 in
    rw (p.1, p.2) (subst (λ (entry : Entry). IsSaid g.S.Store (Contains (statements_of entry)) start end e) (sym c.in-Revised.is) (said_widely g.S.Store _ (Contains (statements_of (Revised r))) (of_delete r) start end e said))

pub returns-in_err-add_revision-in-Revised-clause-said : goal.returns-in_err-add_revision-in-Revised-clause-said
returns-in_err-add_revision-in-Revised-clause-said g c on clean =
    let start = c.args.tx.now.conn.now in
    let without = c.take_proposal.new.tx.conn.now in
    let end = c.add_revision.new.tx.conn.now in
    let r = c.in-Revised.head in
    let e = c.in_err-add_revision-in-Revised.field-0.0 in
    let early : HasCleanDisk (state g.S.Store without) = omega (arith, clean, c.in_err-add_revision-in-Revised.ensures.added.crash.clean) in
    let taken = c.in_ok-take_proposal-in-Revised.ensures.taken in
    let said = c.in_err-add_revision-in-Revised.ensures.said (taken.done early).0.mode clean in
    let p = err_from_is_err_and c.from_residual-in_err-add_revision-in-Revised.result c.from_residual-in_err-add_revision-in-Revised.ensures.1 in
    rw (p.1, p.2) (subst (λ (entry : Entry). IsSaid g.S.Store (Contains (statements_of entry)) start end e) (sym c.in-Revised.is)
    (said_in g.S.Store _ (Contains (statements_of (Revised r))) (of_insert r) start without end end e taken.crash said (same_survives (state g.S.Store end))))

pub returns-in_ok-add_revision-in-Revised-clause-said : goal.returns-in_ok-add_revision-in-Revised-clause-said
returns-in_ok-add_revision-in-Revised-clause-said g c on clean =
    let start = c.args.tx.now.conn.now in
    let without = c.take_proposal.new.tx.conn.now in
    let revised = c.add_revision.new.tx.conn.now in
    let end = c.add_approval.new.tx.conn.now in
    let r = c.in-Revised.head in
    let taken = c.in_ok-take_proposal-in-Revised.ensures.taken in
    let added = c.in_ok-add_revision-in-Revised.ensures.added in
    let early : HasCleanDisk (state g.S.Store revised) = omega (arith, clean, c.add_approval.ensures.added.crash.clean) in
    subst (λ (entry : Entry). IfErr c.add_approval.result (IsSaid g.S.Store (Contains (statements_of entry)) start end)) (sym c.in-Revised.is)
    (fails_last g.S.Store _ (Contains (statements_of (Revised r))) (of_approval r) start revised end c.add_approval.result
    (both (state g.S.Store start) (state g.S.Store without) (state g.S.Store revised) taken.crash added.crash) (c.add_approval.ensures.said (added.done early).0.mode clean))

pub returns-in_err-take_proposal-in-Proposed-clause-said : goal.returns-in_err-take_proposal-in-Proposed-clause-said
returns-in_err-take_proposal-in-Proposed-clause-said g c on clean =
    let start = c.args.tx.now.conn.now in
    let end = c.take_proposal-in-Proposed.new.tx.conn.now in
    let own = c.in-Proposed.proposal in
    let e = c.in_err-take_proposal-in-Proposed.field-0.0 in
    let said = subst (λ file. IsSaid g.S.Store (λ s. s ≡ Step delete_proposal (Words file ∷ [])) start end e) c.as_str-in-Proposed.ensures (c.in_err-take_proposal-in-Proposed.ensures.said on clean) in
    let p = err_from_is_err_and c.from_residual-in_err-take_proposal-in-Proposed.result c.from_residual-in_err-take_proposal-in-Proposed.ensures.1 in
    rw (p.1, p.2) (subst (λ (entry : Entry). IsSaid g.S.Store (Contains (statements_of entry)) start end e) (sym c.in-Proposed.is) (said_widely g.S.Store _ (Contains (statements_of (Proposed own))) (of_delete_first own) start end e said))

pub returns-in_ok-take_proposal-in-Proposed-clause-said : goal.returns-in_ok-take_proposal-in-Proposed-clause-said
returns-in_ok-take_proposal-in-Proposed-clause-said g c on clean =
    let start = c.args.tx.now.conn.now in
    let without = c.take_proposal-in-Proposed.new.tx.conn.now in
    let end = c.add_proposal.new.tx.conn.now in
    let own = c.in-Proposed.proposal in
    let taken = c.in_ok-take_proposal-in-Proposed.ensures.taken in
    let early : HasCleanDisk (state g.S.Store without) = omega (arith, clean, c.add_proposal.ensures.added.crash.clean) in
    subst (λ (entry : Entry). IfErr c.add_proposal.result (IsSaid g.S.Store (Contains (statements_of entry)) start end)) (sym c.in-Proposed.is)
    (fails_last g.S.Store _ (Contains (statements_of (Proposed own))) (of_proposal own) start without end c.add_proposal.result taken.crash (c.add_proposal.ensures.said (taken.done early).0.mode clean))
