use Rattle.std.proofs.Common.{sym, subst}
use Rattle.desk_policy.specs.Site.{HaveReadableLengths}
use Rattle.desk_policy.specs.View.{Compiles}
use Rattle.desk_core.proofs.SiteLemmas.{heads_readable}
use Rattle.desk_core.proofs.change.compile_heads.Goals as goal

pub compile-requires : goal.compile-requires
compile-requires g c = subst HaveReadableLengths (sym c.in_ok-site.ensures) (heads_readable c.args.heads.now c.requires)

pub returns : goal.returns
returns g c = subst (λ texts. Compiles g.V.PolicyView.in_force texts c.compile.result) c.in_ok-site.ensures c.compile.ensures
