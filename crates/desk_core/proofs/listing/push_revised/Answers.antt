-- One file more names a mount point, or none.
use Rattle.std.proofs.Common.{map, subst, Bor, List, ℕ}
use Rattle.std.proofs.lemmas.List.{take_all}
use Rattle.desk_core.specs.declared.head.Head.{Head}
use Rattle.desk_core.specs.PrivateListing.{GainsNamed, NamesMore}
use Rattle.desk_core.proofs.NamedMounts.{names_next, names_none}
use Rattle.desk_core.proofs.listing.push_revised.Goals as goal

abbrev texts_in : List (Bor (List ℕ)) → List (List ℕ)
texts_in mounts = map (λ (mount : Bor (List ℕ)). mount.now) mounts

abbrev file_of : Head → List ℕ
file_of head = head.file

pub loop-head-init : goal.loop-head-init
loop-head-init c = names_none (texts_in c.args.mounts.now.items)

pub loop-head-preserved : goal.loop-head-preserved
loop-head-preserved c =
    names_next file_of c.args.heads.now c.loop-head.head-index c.head-item.result c.loop-head-test.true c.head-item.is
    (texts_in c.args.mounts.now.items) (texts_in c.loop-head.mounts.items) (texts_in c.push_named.new.mounts.items)
    (subst (λ (file : List ℕ). GainsNamed file (texts_in c.loop-head.mounts.items) (texts_in c.push_named.new.mounts.items)) c.as_str.ensures c.in_ok-push_named.ensures) c.loop-head.invariant

pub returns : goal.returns
returns c =
    subst (λ (xs : List Head). NamesMore (map file_of xs) (texts_in c.args.mounts.now.items) (texts_in c.loop-head.mounts.items)) (take_all c.loop-head.head-index c.args.heads.now c.loop-head-test.false) c.loop-head.invariant
