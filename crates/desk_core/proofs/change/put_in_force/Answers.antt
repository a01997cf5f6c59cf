use Rattle.std.proofs.lemmas.Result.{err_from_is_err_and}
use Rattle.desk_policy.specs.Site.{texts_of}
use Rattle.desk_core.proofs.Changing.{policy_refused, site_made, site_refused}
use Rattle.desk_core.proofs.change.put_in_force.Goals as goal

pub returns-in_err-custodians : goal.returns-in_err-custodians
returns-in_err-custodians g c =
    let p = err_from_is_err_and c.from_residual.result c.from_residual.ensures.1 in
    rw (p.1, p.2) (site_refused g.V.PolicyView.in_force (texts_of c.args.site.now) c.in_err-custodians.field-0.0 c.in_err-custodians.ensures)

pub returns-in-Ok : goal.returns-in-Ok
returns-in-Ok g c = site_made g.V.PolicyView.in_force (texts_of c.args.site.now) _ c.in-Ok.view c.in_ok-custodians.ensures c.in-Ok.ensures

pub returns-in-Err : goal.returns-in-Err
returns-in-Err g c = policy_refused g.V.PolicyView.in_force (texts_of c.args.site.now) _ c.in-Err.error c.in_ok-custodians.ensures c.in-Err.ensures
