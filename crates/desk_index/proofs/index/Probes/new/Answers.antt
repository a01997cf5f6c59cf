use Rattle.std.proofs.Common.{subst}
use Rattle.desk_index.specs.Keys.{HasNoHostBits}
use Rattle.desk_index.proofs.KeyedParts.{blocks_all}
use Rattle.desk_index.proofs.index.Probes.new.Goals as goal

pub returns-clause-networks : goal.returns-clause-networks
returns-clause-networks c = subst HasNoHostBits c.index.view_is (blocks_all c.index.inside.policy c.index.inside.parts.items c.index.invariant)
