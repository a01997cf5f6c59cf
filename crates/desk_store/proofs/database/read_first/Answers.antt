use Rattle.std.proofs.Common.{◌∙◌, ◌≡◌, [], Err, IsPermutation, ap, arith, codes, false, inr, refl, subst}
use Rattle.sqlite.specs.Effect.{Database}
use Rattle.std.proofs.lemmas.Result.{err_from_is_err_and}
use Rattle.sqlite.specs.Held.{state}
use Rattle.desk_store.specs.Error.{Query}
use Rattle.desk_store.specs.Tables.{rows_of, select_revisions}
use Rattle.desk_schema.specs.declared.declared.Version.TheVariants.{First}
use Rattle.desk_store.specs.declared.error.DeskError.TheVariants as error
use Rattle.desk_store.specs.declared.error.Task.TheVariants as tasks
use Rattle.desk_store.proofs.ChangesNothing.{early, rest_after, same_after}
use Rattle.desk_store.proofs.OpeningSaid.{later_told, rows_told, told_query}
use Rattle.desk_store.proofs.Said.{both}
use Rattle.desk_store.proofs.RowsRead.{first_before, first_read}
use Rattle.desk_store.proofs.database.read_first.Goals as goal

pub check_version_keys-requires : goal.check_version_keys-requires
check_version_keys-requires g c = rest_after false (state g.S.Store c.args.conn.now) (state g.S.Store c.check_version.new.conn) c.check_version.ensures.look c.requires.rest

pub gather_revisions-requires : goal.gather_revisions-requires
gather_revisions-requires g c =
    let one = state g.S.Store c.check_version.new.conn in
    rest_after false one (state g.S.Store c.check_version_keys.new.conn) c.check_version_keys.ensures.look (rest_after false (state g.S.Store c.args.conn.now) one c.check_version.ensures.look c.requires.rest)

pub state_of_rows-requires : goal.state_of_rows-requires
state_of_rows-requires g c = (c.in-Ok.ensures.rows.0, c.in-Ok.ensures.rows.1)

pub returns-in-Ok-clause-history : goal.returns-in-Ok-clause-history
returns-in-Ok-clause-history g c clean =
    let before = state g.S.Store c.args.conn.now in
    let one = state g.S.Store c.check_version.new.conn in
    let two = state g.S.Store c.check_version_keys.new.conn in
    let clean_two = early two (state g.S.Store c.gather_revisions.new.conn) c.gather_revisions.ensures.look clean in
    let clean_one = early one two c.check_version_keys.ensures.look clean_two in
    let clean_before = early before one c.check_version.ensures.look clean_one in
    let live = c.in_ok-check_version.ensures.live clean_one in
    let same = same_after one two c.check_version_keys.ensures.look clean_two (c.in_ok-check_version_keys.ensures.live clean_two) ∙ same_after before one c.check_version.ensures.look clean_one live in
    let gathered = c.in-Ok.ensures.rows in
    let revised = subst (λ (db : Database). IsPermutation (rows_of db (codes "file_rev")) gathered.0) same (gathered.2 clean) in
    let tables = (c.requires.rest clean_before).tables (c.check_version.ensures.look.opened clean_one live) in
    first_before before.committed gathered.0 revised c.state_of_rows.result tables (c.requires.alone clean_before) (c.in_ok-check_version.ensures.version clean_one) (c.state_of_rows.ensures.history gathered.0 gathered.1)

pub returns-in-Ok-clause-foreign : goal.returns-in-Ok-clause-foreign
returns-in-Ok-clause-foreign g c clean told history site holds =
    let before = state g.S.Store c.args.conn.now in
    let one = state g.S.Store c.check_version.new.conn in
    let two = state g.S.Store c.check_version_keys.new.conn in
    let clean_two = early two (state g.S.Store c.gather_revisions.new.conn) c.gather_revisions.ensures.look clean in
    let clean_one = early one two c.check_version_keys.ensures.look clean_two in
    let clean_before = early before one c.check_version.ensures.look clean_one in
    let live = c.in_ok-check_version.ensures.live clean_one in
    let same = same_after one two c.check_version_keys.ensures.look clean_two (c.in_ok-check_version_keys.ensures.live clean_two) ∙ same_after before one c.check_version.ensures.look clean_one live in
    let gathered = c.in-Ok.ensures.rows in
    let revised = subst (λ (db : Database). IsPermutation (rows_of db (codes "file_rev")) gathered.0) same (gathered.2 clean) in
    c.state_of_rows.ensures.foreign told gathered.0 gathered.1 history site (first_read before.committed gathered.0 revised history holds)

pub returns-in_err-check_version-clause-said : goal.returns-in_err-check_version-clause-said
returns-in_err-check_version-clause-said g c clean =
    let p = err_from_is_err_and c.from_residual.result c.from_residual.ensures.1 in
    rw (p.1, p.2) (c.in_err-check_version.ensures.said clean)

pub returns-in_err-check_version-clause-memory : goal.returns-in_err-check_version-clause-memory
returns-in_err-check_version-clause-memory g c clean memory =
    let p = err_from_is_err_and c.from_residual.result c.from_residual.ensures.1 in
    let is = p.1 in
    let from = p.2 in
    let told : c.in_err-check_version.field-0.0 ≡ error.Memory = cc in
    c.in_err-check_version.ensures.memory clean (ap Err told)

pub returns-in_err-check_version_keys-clause-said : goal.returns-in_err-check_version_keys-clause-said
returns-in_err-check_version_keys-clause-said g c clean =
    let old = c.args.conn.now in
    let one = c.check_version.new.conn in
    let two = c.check_version_keys.new.conn in
    let look = c.check_version.ensures.look in
    let clean_one = early (state g.S.Store one) (state g.S.Store two) c.check_version_keys.ensures.look clean in
    let same = same_after (state g.S.Store old) (state g.S.Store one) look clean_one (c.in_ok-check_version.ensures.live clean_one) in
    let p = err_from_is_err_and c.from_residual-in_err-check_version_keys.result c.from_residual-in_err-check_version_keys.ensures.1 in
    rw (p.1, p.2) (later_told g.S.Store old one two look.leaves.crash same c.in_err-check_version_keys.field-0.0 (c.in_err-check_version_keys.ensures.said clean))

pub returns-in_err-check_version_keys-clause-memory : goal.returns-in_err-check_version_keys-clause-memory
returns-in_err-check_version_keys-clause-memory g c clean memory =
    let clean_one = early (state g.S.Store c.check_version.new.conn) (state g.S.Store c.check_version_keys.new.conn) c.check_version_keys.ensures.look clean in
    inr (First, c.in_ok-check_version.ensures.version clean_one)

pub returns-in-Ok-clause-said : goal.returns-in-Ok-clause-said
returns-in-Ok-clause-said g c clean = rows_told g.S.Store c.args.conn.now c.gather_revisions.new.conn c.state_of_rows.result c.state_of_rows.ensures.errors

pub returns-in-Ok-clause-memory : goal.returns-in-Ok-clause-memory
returns-in-Ok-clause-memory g c clean memory =
    let clean_two = early (state g.S.Store c.check_version_keys.new.conn) (state g.S.Store c.gather_revisions.new.conn) c.gather_revisions.ensures.look clean in
    let clean_one = early (state g.S.Store c.check_version.new.conn) (state g.S.Store c.check_version_keys.new.conn) c.check_version_keys.ensures.look clean_two in
    inr (First, c.in_ok-check_version.ensures.version clean_one)

pub returns-in-Err-clause-said : goal.returns-in-Err-clause-said
returns-in-Err-clause-said g c clean =
    let old = c.args.conn.now in
    let one = c.check_version.new.conn in
    let two = c.check_version_keys.new.conn in
    let new = c.gather_revisions.new.conn in
    let first = c.check_version.ensures.look in
    let then = c.check_version_keys.ensures.look in
    let clean_two = early (state g.S.Store two) (state g.S.Store new) c.gather_revisions.ensures.look clean in
    let clean_one = early (state g.S.Store one) (state g.S.Store two) then clean_two in
    let same = same_after (state g.S.Store one) (state g.S.Store two) then clean_two (c.in_ok-check_version_keys.ensures.live clean_two)
    ∙ same_after (state g.S.Store old) (state g.S.Store one) first clean_one (c.in_ok-check_version.ensures.live clean_one) in
    later_told g.S.Store old two new (both (state g.S.Store old) (state g.S.Store one) (state g.S.Store two) first.leaves.crash then.leaves.crash) same c.not_stored.result
    (told_query g.S.Store two new (Query select_revisions []) (4, omega arith, refl) tasks.ReadRevisions c.in-Err.e c.not_stored.result c.not_stored.ensures.named (c.in-Err.ensures.said clean))

pub returns-in-Err-clause-memory : goal.returns-in-Err-clause-memory
returns-in-Err-clause-memory g c clean memory =
    let clean_two = early (state g.S.Store c.check_version_keys.new.conn) (state g.S.Store c.gather_revisions.new.conn) c.gather_revisions.ensures.look clean in
    let clean_one = early (state g.S.Store c.check_version.new.conn) (state g.S.Store c.check_version_keys.new.conn) c.check_version_keys.ensures.look clean_two in
    inr (First, c.in_ok-check_version.ensures.version clean_one)
