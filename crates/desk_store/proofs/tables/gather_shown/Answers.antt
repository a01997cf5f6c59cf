use Rattle.std.proofs.Common.{◌≡◌, ◌∙◌, ◌∷◌, ◌++◌, [], Ok, refl, rules, subst}
use Rattle.std.proofs.lemmas.Result.{err_from_is_err_and}
use Rattle.desk_store.specs.PrivateGatheredRevisions.{GathersShown}
use Rattle.desk_store.proofs.Gathering.{begun, ended, failed, more, refused}
use Rattle.desk_store.proofs.tables.gather_shown.Goals as goal

pub rows-preserved : goal.rows-preserved
rows-preserved g c =
    let moved = c.next.follows.holds-at-none in
    let was = c.rows.invariant in
    let now = c.next.follows.lender-at-none.conn.now in
    let row = c.in-Some.row.now in (
      moved.same_reference ∙ was.0,
      λ none. moved.mode (was.1 none),
      (
        was.2.0 ++ row ∷ [],
        c.add.ensures was.2.0 was.2.1,
        λ plain.
            let so_far = was.2.2 plain in
            more g.S.Store c.args.select.now.text c.args.conn.now plain c.rows.rows.conn.now was.2.0 was.1 so_far.0 so_far.1 now moved.mode moved.survives row (λ clean. rw c.in_ok-row.was at (moved.same clean))
            (λ clean has. (rw (c.in_ok-row.was, c.in-Some.is) at (moved.ok clean)) c.args.select.now.text [] was.2.0 has),
      ),
    )

pub returns-in_err-rows : goal.returns-in_err-rows
returns-in_err-rows g c = λ plain.
    let p = err_from_is_err_and c.from_residual.result c.from_residual.ensures.1 in
    rw (p.1, p.2) (refused g.S.Store c.args.select.now.text c.args.conn.now plain c.query_prepared.result c.in_err-rows.field-0.0 c.query_prepared.follows.lender-at-none c.in_err-rows.was c.query_prepared.follows.holds-at-none)

pub rows-init : goal.rows-init
rows-init g c =
    let made = c.in_ok-rows.ensures in
    (refl, made.mode, ([], c.new-gathered.ensures, λ plain. begun g.S.Store c.args.select.now.text c.args.conn.now plain c.in_ok-rows.rows.conn.now made.survives made.begun))

pub returns-in_err-row : goal.returns-in_err-row
returns-in_err-row g c = λ plain.
    let moved = c.next.follows.holds-at-none in
    let now = c.next.follows.lender-at-none.conn.now in
    let was = c.rows.invariant in
    let so_far = was.2.2 plain in
    let p = err_from_is_err_and c.from_residual-in_err-row.result c.from_residual-in_err-row.ensures.1 in
    let it : GathersShown g.S.Store c.args.select.now.text c.args.conn.now now c.from_residual-in_err-row.result =
    rw (p.1, p.2) (failed g.S.Store c.args.select.now.text c.args.conn.now plain c.rows.rows.conn.now was.2.0 was.1 so_far.0 so_far.1 now moved.mode moved.survives c.in_err-row.field-0.0 (λ clean. rw c.in_err-row.was at (moved.err clean))) in
    search rules

pub returns-in_default : goal.returns-in_default
returns-in_default g c = λ plain.
    let now = c.next.follows.lender-at-none.conn.now in
    let last : now ≡ c.conn-in_default-1.given.0 = search rules in
    let moved = c.next.follows.holds-at-none in
    let was = c.rows.invariant in
    let so_far = was.2.2 plain in
    subst (λ conn. GathersShown g.S.Store c.args.select.now.text c.args.conn.now conn (Ok c.rows.gathered)) last
    (ended g.S.Store c.args.select.now.text c.args.conn.now plain c.rows.rows.conn.now was.2.0 was.1 so_far.0 so_far.1 now moved.mode moved.survives c.rows.gathered was.2.1 (λ clean. rw c.in_ok-row.was at (moved.same clean))
    (λ clean has. (rw (c.in_ok-row.was, c.in_default.is) at (moved.ok clean)) c.args.select.now.text [] was.2.0 has))
