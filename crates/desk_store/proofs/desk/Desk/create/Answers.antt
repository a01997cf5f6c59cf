use Rattle.std.proofs.Common.{arith, subst, sym}
use Rattle.sqlite.specs.Held.{state}
use Rattle.desk_policy.specs.Site.{texts_of}
use Rattle.desk_core.specs.Standing.{PendOnce}
use Rattle.desk_store.proofs.MadeState.{desk_made}
use Rattle.desk_store.proofs.desk.Desk.create.Goals as goal

pub invariant_of-result : goal.invariant_of-result
invariant_of-result g c = (
  c.create_state.ensures.mode,
  λ clean. desk_made (state g.S.Store c.args.conn) (state g.S.Store c.create_state.new.conn) (texts_of c.args.site.now) c.in-Ok.current (c.in-Ok.ensures.made clean),
  subst PendOnce (sym c.in-Ok.ensures.heads.1) (λ i j d less below. absurd (omega (arith, below))),
)
