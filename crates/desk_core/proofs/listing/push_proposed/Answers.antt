-- One file more names a mount point, or none.
use Rattle.std.proofs.Common.{map, subst, Bor, List, ℕ}
use Rattle.std.proofs.lemmas.List.{take_all}
use Rattle.desk_core.specs.declared.proposal.Proposal.{Proposal}
use Rattle.desk_core.specs.PrivateListing.{GainsNamed, NamesMore}
use Rattle.desk_core.proofs.NamedMounts.{names_next, names_none}
use Rattle.desk_core.proofs.listing.push_proposed.Goals as goal

abbrev texts_in : List (Bor (List ℕ)) → List (List ℕ)
texts_in mounts = map (λ (mount : Bor (List ℕ)). mount.now) mounts

abbrev file_of : Proposal → List ℕ
file_of proposal = proposal.file

pub loop-proposal-init : goal.loop-proposal-init
loop-proposal-init c = names_none (texts_in c.args.mounts.now.items)

pub loop-proposal-preserved : goal.loop-proposal-preserved
loop-proposal-preserved c =
    names_next file_of c.args.proposals.now c.loop-proposal.proposal-index c.proposal-item.result c.loop-proposal-test.true c.proposal-item.is
    (texts_in c.args.mounts.now.items) (texts_in c.loop-proposal.mounts.items) (texts_in c.push_named.new.mounts.items)
    (subst (λ (file : List ℕ). GainsNamed file (texts_in c.loop-proposal.mounts.items) (texts_in c.push_named.new.mounts.items)) c.as_str.ensures c.in_ok-push_named.ensures) c.loop-proposal.invariant

pub returns : goal.returns
returns c =
    subst (λ (xs : List Proposal). NamesMore (map file_of xs) (texts_in c.args.mounts.now.items) (texts_in c.loop-proposal.mounts.items)) (take_all c.loop-proposal.proposal-index c.args.proposals.now c.loop-proposal-test.false) c.loop-proposal.invariant
