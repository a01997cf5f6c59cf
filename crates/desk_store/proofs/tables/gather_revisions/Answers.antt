use Rattle.std.proofs.Common.{[], false, codes}
use Rattle.desk_store.specs.Tables.{rows_of, select_revisions}
use Rattle.desk_store.proofs.ChangesNothing.{changes_nothing, not_run}
use Rattle.desk_store.proofs.Gathering.{gathers, not_gathered, plain}
use Rattle.desk_store.proofs.NamedLook.{revisions_look}
use Rattle.desk_store.proofs.tables.gather_revisions.Goals as goal

pub returns-in-Ok : goal.returns-in-Ok
returns-in-Ok g c =
    let old = c.args.conn.now in
    let mid = c.prepare.new.self in
    let sql = c.in-Ok.select.text in
    gathers g.S.Store false select_revisions (λ db. rows_of db (codes "file_rev")) (revisions_look false) old mid c.gather_shown.new.conn sql c.requires c.in-Ok.ensures.ok c.prepare.ensures.mode c.prepare.ensures.survives
    c.gather_shown.result
    (c.gather_shown.ensures
    (plain g.S.Store false select_revisions (λ db. rows_of db (codes "file_rev")) (revisions_look false) old mid c.gather_shown.new.conn sql c.requires c.in-Ok.ensures.ok c.prepare.ensures.mode c.prepare.ensures.survives))

pub returns-in-Err : goal.returns-in-Err
returns-in-Err g c =
    not_gathered g.S.Store (λ db. rows_of db (codes "file_rev")) select_revisions c.args.conn.now c.prepare.new.self c.in-Err.e
    (changes_nothing _ _ c.prepare.ensures.mode (λ clean. not_run _ _ _ [] _ (c.in-Err.ensures.err clean [])) c.prepare.ensures.survives) (λ clean. c.in-Err.ensures.err clean [])
