use Rattle.std.proofs.lemmas.Result.{err_from_is_err_and}
use Rattle.desk_policy.specs.Site.{texts_of}
use Rattle.desk_policy.proofs.Compiling.{compiles, refused_site}
use Rattle.desk_policy.proofs.view.compile.Goals as goal

pub returns-in_err-policy : goal.returns-in_err-policy
returns-in_err-policy g c =
    let p = err_from_is_err_and c.from_residual.result c.from_residual.ensures.1 in
    rw (p.1, p.2) (refused_site g.V.PolicyView.in_force (texts_of c.args.site.now) c.in_err-policy.field-0.0 c.in_err-policy.ensures)

pub returns : goal.returns
returns g c = compiles g.V.PolicyView.in_force c.in_ok-policy.policy (texts_of c.args.site.now) c.build.result c.in_ok-policy.ensures c.build.ensures
