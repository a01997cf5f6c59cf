-- The mount points that the files so far name are added.
use Rattle.std.proofs.Common.{map, take, Bor, List, ℕ}
use Rattle.desk_core.specs.declared.proposal.Proposal.{Proposal}
use Rattle.desk_core.specs.PrivateListing.{NamesMore}
use Rattle.desk_core.proofs.listing.push_proposed.Given as goal

abbrev pub invariant-loop-proposal : goal.invariant-loop-proposal
invariant-loop-proposal l =
    NamesMore (map (λ (proposal : Proposal). proposal.file) (take l.proposal-index l.proposals)) (map (λ (mount : Bor (List ℕ)). mount.now) l.initial.mounts.items) (map (λ (mount : Bor (List ℕ)). mount.now) l.mounts.items)
