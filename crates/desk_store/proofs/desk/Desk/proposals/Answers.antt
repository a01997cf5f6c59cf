use Rattle.std.proofs.Common.{subst, sym}
use Rattle.desk_core.specs.Standing.{PendOnce}
use Rattle.desk_store.proofs.desk.Desk.proposals.Goals as goal

pub returns-clause-once : goal.returns-clause-once
returns-clause-once g c = subst PendOnce (sym c.proposals.ensures) c.self.invariant.2
