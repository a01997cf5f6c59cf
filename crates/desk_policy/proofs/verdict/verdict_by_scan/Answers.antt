use Rattle.std.proofs.Common.{sym}
use Rattle.desk_policy.proofs.VerdictLines.{scan_listed, scan_unlisted, scan_empty, scan_none}
use Rattle.desk_policy.proofs.verdict.verdict_by_scan.Goals as goal

pub returns-in_default : goal.returns-in_default
returns-in_default c =
    sym (scan_none c.args.fs _ c.args.rows.now c.args.address.number c.in_default.ensures)

pub returns-in-Some-first_listing : goal.returns-in-Some-first_listing
returns-in-Some-first_listing c =
    rw (c.deref.ensures, c.deref-in-Some-first_listing.ensures) (sym (scan_listed c.args.fs _ c.args.rows.now c.args.address.number c.in-Some.weight c.in-Some.ensures c.in-Some-first_listing.row.now (sym c.in-Some-first_listing.ensures)))

pub returns-in-Some-first_with : goal.returns-in-Some-first_with
returns-in-Some-first_with c =
    rw c.deref-in-Some-first_with.ensures (sym (scan_unlisted c.args.fs _ c.args.rows.now c.args.address.number c.in-Some.weight c.in-Some.ensures c.in-Some-first_with.row.now (sym c.in-None.ensures) (sym c.in-Some-first_with.ensures)))

pub returns-in-None-first_with : goal.returns-in-None-first_with
returns-in-None-first_with c =
    sym (scan_empty c.args.fs _ c.args.rows.now c.args.address.number c.in-Some.weight c.in-Some.ensures (sym c.in-None-first_with.ensures))
