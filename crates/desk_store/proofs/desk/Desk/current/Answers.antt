use Rattle.std.proofs.Common.{subst}
use Rattle.desk_core.specs.Standing.{PendOnce}
use Rattle.desk_store.proofs.desk.Desk.current.Goals as goal

pub returns-clause-once : goal.returns-clause-once
returns-clause-once g c = subst (λ s. PendOnce s.state.proposals) c.self.view_is c.self.invariant.2
