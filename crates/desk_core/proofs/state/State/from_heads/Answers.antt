use Rattle.std.proofs.Common.{sym, subst, List}
use Rattle.desk_policy.specs.Site.{HaveReadableLengths}
use Rattle.desk_core.specs.Head.{newest_in}
use Rattle.desk_core.specs.Site.{site_in}
use Rattle.desk_core.specs.declared.head.Head.{Head}
use Rattle.desk_core.proofs.SiteLemmas.{heads_readable}
use Rattle.desk_core.proofs.state.State.from_heads.Goals as goal

pub put_heads_in_force-requires : goal.put_heads_in_force-requires
put_heads_in_force-requires g c =
    subst (λ (hs : List Head). HaveReadableLengths (site_in (newest_in hs))) (sym c.as_slice.ensures.value) (heads_readable c.args.heads.items c.requires.heads)
