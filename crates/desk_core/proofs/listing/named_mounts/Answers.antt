-- The revisions and the proposals name them.
use Rattle.std.proofs.Common.{[], map, subst, sym, Bor, List, ℕ}
use Rattle.desk_core.specs.PrivateListing.{AreNamed}
use Rattle.desk_core.specs.declared.head.Head.{Head}
use Rattle.desk_core.proofs.NamedMounts.{none_named}
use Rattle.desk_core.proofs.listing.named_mounts.Goals as goal

abbrev texts_in : List (Bor (List ℕ)) → List (List ℕ)
texts_in mounts = map (λ (mount : Bor (List ℕ)). mount.now) mounts

pub returns : goal.returns
returns c =
    c.in_ok-push_proposed.ensures (map (λ (head : Head). head.file) c.args.heads.now)
    (c.in_ok-push_revised.ensures [] (subst (λ (ms : List (Bor (List ℕ))). AreNamed [] (texts_in ms)) (sym c.new-mounts.ensures.items) none_named))
