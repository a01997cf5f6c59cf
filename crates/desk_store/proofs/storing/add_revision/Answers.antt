use Rattle.std.proofs.Common.{◌≡◌, ◌∙◌, ◌<◌, ◌^◌, ap, arith, pos, refl, subst, sym, IsTrue, Ok, Err}
use Rattle.std.proofs.lemmas.Result.{err_from_is_err_and}
use Rattle.sqlite.specs.Held.{state}
use Rattle.sqlite.specs.State.{Executes, ExecutesInside, HasCleanDisk, KeepsCommit, State}
use Rattle.desk_exports.specs.Profile.{profile_number}
use Rattle.desk_exports.specs.declared.profile.Profile.{Profile}
use Rattle.desk_exports.specs.declared.profile.Profile.TheVariants.{One, Two}
use Rattle.desk_store.specs.Create.{AddsRow}
use Rattle.desk_store.specs.Error.{Statement, Step}
use Rattle.desk_store.specs.History.{row_of}
use Rattle.desk_store.specs.Tables.{insert_revision}
use Rattle.desk_store.proofs.Entries.{revision_added}
use Rattle.desk_store.proofs.Placed.{signed}
use Rattle.desk_store.proofs.Inside.{did_so, failed_inside, ran_inside, stays_so}
use Rattle.desk_store.proofs.Said.{said_now}
use Rattle.desk_store.proofs.storing.add_revision.Goals as goal

low_profile : (p : Profile) → profile_number p < 2 ^ 32
low_profile One = omega arith
low_profile Two = omega arith

pub returns-clause-added : goal.returns-clause-added
returns-clause-added g c =
    let old = state g.S.Store c.args.tx.now.conn.now in
    let new = state g.S.Store c.execute.new.self.conn.now in
    let r = c.args.head.now in
    let row = row_of r in
    let count = c.in_ok-execute.field-0 in
    let rev = signed c.from.result r.rev c.from.ensures (omega arith) in
    let profile = signed c.from-2.result (profile_number r.profile) (c.from-2.ensures ∙ ap pos c.number.ensures) (low_profile r.profile) in
    let runs : HasCleanDisk new → IsTrue old.in_transaction → ExecutesInside 0 insert_revision row old new (Ok count) =
    λ clean on. rw (c.params-to_sql.ensures, c.params-to_sql-2.ensures, rev, c.params-to_sql-3.ensures, c.params-to_sql-4.ensures, profile, c.params-to_sql-5.ensures, c.as_str.ensures, c.as_str-2.ensures, c.as_bytes.ensures.value, c.as_str-3.ensures) at
    (c.in_ok-execute.ensures.runs clean on) in
    did_so old new _ (λ (s t : State). Executes insert_revision row s t (Ok count)) (AddsRow row) (λ h has. revision_added old new count has r.file r.rev r.author (profile_number r.profile) r.body h)
    (ran_inside old new insert_revision row count _ _ _ c.in_ok-execute.ensures.ended runs c.in_ok-execute.ensures.survives)

pub returns-in_err-execute-clause-added : goal.returns-in_err-execute-clause-added
returns-in_err-execute-clause-added g c =
    let old = state g.S.Store c.args.tx.now.conn.now in
    let new = state g.S.Store c.execute.new.self.conn.now in
    let p = err_from_is_err_and c.from_residual.result c.from_residual.ensures.1 in
    rw (p.1) (failed_inside old new _ _ _ _ (Unit {0}) (AddsRow (row_of c.args.head.now)) (λ off. (tt, subst (λ conn. KeepsCommit old (state g.S.Store conn)) (sym (c.in_err-execute.ensures.ended off).1) (stays_so old))) c.in_err-execute.ensures.runs c.in_err-execute.ensures.survives)

pub returns-in_err-execute-clause-said : goal.returns-in_err-execute-clause-said
returns-in_err-execute-clause-said g c on clean =
    let old = c.args.tx.now.conn.now in
    let new = c.execute.new.self.conn.now in
    let r = c.args.head.now in
    let own : Statement = Step insert_revision (row_of r) in
    let e = c.in_err-execute.field-0.0 in
    let rev = signed c.from.result r.rev c.from.ensures (omega arith) in
    let profile = signed c.from-2.result (profile_number r.profile) (c.from-2.ensures ∙ ap pos c.number.ensures) (low_profile r.profile) in
    let runs : ExecutesInside 0 insert_revision (row_of r) (state g.S.Store old) (state g.S.Store new) (Err e) =
    rw (c.params-to_sql.ensures, c.params-to_sql-2.ensures, rev, c.params-to_sql-3.ensures, c.params-to_sql-4.ensures, profile, c.params-to_sql-5.ensures, c.as_str.ensures, c.as_str-2.ensures, c.as_bytes.ensures.value, c.as_str-3.ensures) at
    (c.in_err-execute.ensures.runs clean on) in
    let p = err_from_is_err_and c.from_residual.result c.from_residual.ensures.1 in
    rw (p.1, p.2) (said_now g.S.Store (λ (s : Statement). s ≡ own) old new own e refl runs)
