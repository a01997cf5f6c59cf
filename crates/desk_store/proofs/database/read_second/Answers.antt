use Rattle.std.proofs.Common.{◌∙◌, ◌≡◌, Err, ap, inr, true}
use Rattle.std.proofs.lemmas.Result.{err_from_is_err_and}
use Rattle.sqlite.specs.Held.{state}
use Rattle.desk_schema.specs.declared.declared.Version.TheVariants.{Second}
use Rattle.desk_store.specs.declared.error.DeskError.TheVariants as error
use Rattle.desk_store.proofs.ChangesNothing.{early, rest_after, same_after}
use Rattle.desk_store.proofs.OpeningSaid.{later_so, later_told}
use Rattle.desk_store.proofs.Said.{both}
use Rattle.desk_store.proofs.database.read_second.Goals as goal

pub check_keys-requires : goal.check_keys-requires
check_keys-requires g c = rest_after true (state g.S.Store c.args.conn.now) (state g.S.Store c.check_version.new.conn) c.check_version.ensures.look c.requires

pub read_history-requires : goal.read_history-requires
read_history-requires g c =
    let one = state g.S.Store c.check_version.new.conn in
    rest_after true one (state g.S.Store c.check_keys.new.conn) c.check_keys.ensures.look (rest_after true (state g.S.Store c.args.conn.now) one c.check_version.ensures.look c.requires)

pub returns-in_err-check_version-clause-said : goal.returns-in_err-check_version-clause-said
returns-in_err-check_version-clause-said g c clean =
    let p = err_from_is_err_and c.from_residual.result c.from_residual.ensures.1 in
    rw (p.1, p.2) (c.in_err-check_version.ensures.said clean)

pub returns-in_err-check_version-clause-memory : goal.returns-in_err-check_version-clause-memory
returns-in_err-check_version-clause-memory g c clean memory =
    let p = err_from_is_err_and c.from_residual.result c.from_residual.ensures.1 in
    let is = p.1 in
    let from = p.2 in
    let told : c.in_err-check_version.field-0.0 ≡ error.Memory = cc in
    c.in_err-check_version.ensures.memory clean (ap Err told)

pub returns-in_err-check_keys-clause-said : goal.returns-in_err-check_keys-clause-said
returns-in_err-check_keys-clause-said g c clean =
    let old = c.args.conn.now in
    let one = c.check_version.new.conn in
    let two = c.check_keys.new.conn in
    let look = c.check_version.ensures.look in
    let clean_one = early (state g.S.Store one) (state g.S.Store two) c.check_keys.ensures.look clean in
    let same = same_after (state g.S.Store old) (state g.S.Store one) look clean_one (c.in_ok-check_version.ensures.live clean_one) in
    let p = err_from_is_err_and c.from_residual-in_err-check_keys.result c.from_residual-in_err-check_keys.ensures.1 in
    rw (p.1, p.2) (later_told g.S.Store old one two look.leaves.crash same c.in_err-check_keys.field-0.0 (c.in_err-check_keys.ensures.said clean))

pub returns-in_err-check_keys-clause-memory : goal.returns-in_err-check_keys-clause-memory
returns-in_err-check_keys-clause-memory g c clean memory =
    let clean_one = early (state g.S.Store c.check_version.new.conn) (state g.S.Store c.check_keys.new.conn) c.check_keys.ensures.look clean in
    inr (Second, c.in_ok-check_version.ensures.version clean_one)

pub returns-clause-said : goal.returns-clause-said
returns-clause-said g c clean =
    let old = c.args.conn.now in
    let one = c.check_version.new.conn in
    let two = c.check_keys.new.conn in
    let new = c.read_history.new.conn in
    let first = c.check_version.ensures.look in
    let then = c.check_keys.ensures.look in
    let clean_two = early (state g.S.Store two) (state g.S.Store new) c.read_history.ensures.look clean in
    let clean_one = early (state g.S.Store one) (state g.S.Store two) then clean_two in
    let same = same_after (state g.S.Store one) (state g.S.Store two) then clean_two (c.in_ok-check_keys.ensures.live clean_two)
    ∙ same_after (state g.S.Store old) (state g.S.Store one) first clean_one (c.in_ok-check_version.ensures.live clean_one) in
    later_so g.S.Store old two new (both (state g.S.Store old) (state g.S.Store one) (state g.S.Store two) first.leaves.crash then.leaves.crash) same c.read_history.result (c.read_history.ensures.said clean)

pub returns-clause-memory : goal.returns-clause-memory
returns-clause-memory g c clean memory =
    let clean_two = early (state g.S.Store c.check_keys.new.conn) (state g.S.Store c.read_history.new.conn) c.read_history.ensures.look clean in
    let clean_one = early (state g.S.Store c.check_version.new.conn) (state g.S.Store c.check_keys.new.conn) c.check_keys.ensures.look clean_two in
    inr (Second, c.in_ok-check_version.ensures.version clean_one)
