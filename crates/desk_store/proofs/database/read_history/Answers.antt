use Rattle.std.proofs.Common.{◌∙◌, [], arith, codes, refl, true}
use Rattle.sqlite.specs.Held.{state}
use Rattle.desk_store.specs.Error.{Query}
use Rattle.desk_store.specs.Tables.{rows_of, select_approvals, select_proposals, select_revisions}
use Rattle.desk_store.specs.declared.error.Task.TheVariants as tasks
use Rattle.desk_store.proofs.ChangesNothing.{early, rest_after, same_after}
use Rattle.desk_store.proofs.OpeningSaid.{later_told, rows_told, told_query}
use Rattle.desk_store.proofs.Said.{both}
use Rattle.desk_store.proofs.RowsRead.{are_read, history_before, read_in}
use Rattle.desk_store.proofs.database.read_history.Goals as goal

pub read_approvals-requires : goal.read_approvals-requires
read_approvals-requires g c = rest_after true (state g.S.Store c.args.conn.now) (state g.S.Store c.gather_revisions.new.conn) c.gather_revisions.ensures.look c.requires

pub read_proposals-requires : goal.read_proposals-requires
read_proposals-requires g c =
    let one = state g.S.Store c.gather_revisions.new.conn in
    rest_after true one (state g.S.Store c.read_approvals.new.conn) c.read_approvals.ensures.look (rest_after true (state g.S.Store c.args.conn.now) one c.gather_revisions.ensures.look c.requires)

pub state_of_rows-requires : goal.state_of_rows-requires
state_of_rows-requires g c = (c.in-Ok.ensures.rows.0, c.in-Ok.ensures.rows.1)

pub returns-in-Ok-read_proposals-clause-history : goal.returns-in-Ok-read_proposals-clause-history
returns-in-Ok-read_proposals-clause-history g c clean =
    let before = state g.S.Store c.args.conn.now in
    let one = state g.S.Store c.gather_revisions.new.conn in
    let two = state g.S.Store c.read_approvals.new.conn in
    let clean_two = early two (state g.S.Store c.read_proposals.new.conn) c.read_proposals.ensures.look clean in
    let clean_one = early one two c.read_approvals.ensures.look clean_two in
    let same_one = same_after before one c.gather_revisions.ensures.look clean_one (c.in-Ok.ensures.live clean_one) in
    let same_two = same_after one two c.read_approvals.ensures.look clean_two (c.in-Ok-read_approvals.ensures.live clean_two) ∙ same_one in
    let gathered = c.in-Ok.ensures.rows in
    let revised = gathered.2 clean_one in
    let approved = read_in (codes "approval") before.committed one.committed c.in-Ok-read_approvals.rows.items c.as_slice.result.now same_one c.as_slice.ensures.value (c.in-Ok-read_approvals.ensures.rows clean_two) in
    let proposed = read_in (codes "proposal") before.committed two.committed c.in-Ok-read_proposals.proposals.items c.as_slice-in-Ok-read_proposals.result.now same_two c.as_slice-in-Ok-read_proposals.ensures.value (c.in-Ok-read_proposals.ensures.rows clean) in
    history_before (rows_of before.committed (codes "file_rev")) (rows_of before.committed (codes "approval")) (rows_of before.committed (codes "proposal"))
    gathered.0 c.as_slice.result.now c.as_slice-in-Ok-read_proposals.result.now revised approved proposed c.state_of_rows.result (c.state_of_rows.ensures.history gathered.0 gathered.1)

pub returns-in-Ok-read_proposals-clause-foreign : goal.returns-in-Ok-read_proposals-clause-foreign
returns-in-Ok-read_proposals-clause-foreign g c clean told history site are =
    let before = state g.S.Store c.args.conn.now in
    let one = state g.S.Store c.gather_revisions.new.conn in
    let two = state g.S.Store c.read_approvals.new.conn in
    let clean_two = early two (state g.S.Store c.read_proposals.new.conn) c.read_proposals.ensures.look clean in
    let clean_one = early one two c.read_approvals.ensures.look clean_two in
    let same_one = same_after before one c.gather_revisions.ensures.look clean_one (c.in-Ok.ensures.live clean_one) in
    let same_two = same_after one two c.read_approvals.ensures.look clean_two (c.in-Ok-read_approvals.ensures.live clean_two) ∙ same_one in
    let gathered = c.in-Ok.ensures.rows in
    let revised = gathered.2 clean_one in
    let approved = read_in (codes "approval") before.committed one.committed c.in-Ok-read_approvals.rows.items c.as_slice.result.now same_one c.as_slice.ensures.value (c.in-Ok-read_approvals.ensures.rows clean_two) in
    let proposed = read_in (codes "proposal") before.committed two.committed c.in-Ok-read_proposals.proposals.items c.as_slice-in-Ok-read_proposals.result.now same_two c.as_slice-in-Ok-read_proposals.ensures.value (c.in-Ok-read_proposals.ensures.rows clean) in
    c.state_of_rows.ensures.foreign told gathered.0 gathered.1 history site
    (are_read (rows_of before.committed (codes "file_rev")) (rows_of before.committed (codes "approval")) (rows_of before.committed (codes "proposal"))
    gathered.0 c.as_slice.result.now c.as_slice-in-Ok-read_proposals.result.now revised approved proposed history are)

pub returns-in-Err-clause-said : goal.returns-in-Err-clause-said
returns-in-Err-clause-said g c clean =
    told_query g.S.Store c.args.conn.now c.gather_revisions.new.conn (Query select_revisions []) (4, omega arith, refl) tasks.ReadRevisions c.in-Err.e c.not_stored.result c.not_stored.ensures.named (c.in-Err.ensures.said clean)

pub returns-in-Err-read_approvals-clause-said : goal.returns-in-Err-read_approvals-clause-said
returns-in-Err-read_approvals-clause-said g c clean =
    let old = c.args.conn.now in
    let one = c.gather_revisions.new.conn in
    let two = c.read_approvals.new.conn in
    let look = c.gather_revisions.ensures.look in
    let told = c.not_stored-in-Err-read_approvals in
    let clean_one = early (state g.S.Store one) (state g.S.Store two) c.read_approvals.ensures.look clean in
    let same = same_after (state g.S.Store old) (state g.S.Store one) look clean_one (c.in-Ok.ensures.live clean_one) in
    later_told g.S.Store old one two look.leaves.crash same told.result
    (told_query g.S.Store one two (Query select_approvals []) (5, omega arith, refl) tasks.ReadRevisions c.in-Err-read_approvals.e told.result told.ensures.named (c.in-Err-read_approvals.ensures.said clean))

pub returns-in-Ok-read_proposals-clause-said : goal.returns-in-Ok-read_proposals-clause-said
returns-in-Ok-read_proposals-clause-said g c clean = rows_told g.S.Store c.args.conn.now c.read_proposals.new.conn c.state_of_rows.result c.state_of_rows.ensures.errors

pub returns-in-Err-read_proposals-clause-said : goal.returns-in-Err-read_proposals-clause-said
returns-in-Err-read_proposals-clause-said g c clean =
    let old = c.args.conn.now in
    let one = c.gather_revisions.new.conn in
    let two = c.read_approvals.new.conn in
    let new = c.read_proposals.new.conn in
    let first = c.gather_revisions.ensures.look in
    let then = c.read_approvals.ensures.look in
    let told = c.not_stored-in-Err-read_proposals in
    let clean_two = early (state g.S.Store two) (state g.S.Store new) c.read_proposals.ensures.look clean in
    let clean_one = early (state g.S.Store one) (state g.S.Store two) then clean_two in
    let same = same_after (state g.S.Store one) (state g.S.Store two) then clean_two (c.in-Ok-read_approvals.ensures.live clean_two)
    ∙ same_after (state g.S.Store old) (state g.S.Store one) first clean_one (c.in-Ok.ensures.live clean_one) in
    later_told g.S.Store old two new (both (state g.S.Store old) (state g.S.Store one) (state g.S.Store two) first.leaves.crash then.leaves.crash) same told.result
    (told_query g.S.Store two new (Query select_proposals []) (6, omega arith, refl) tasks.ReadRevisions c.in-Err-read_proposals.e told.result told.ensures.named (c.in-Err-read_proposals.ensures.said clean))
