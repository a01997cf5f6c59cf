-- One more file system.
use Rattle.std.proofs.Common.{◌≡◌, ◌<◌, ◌+◌, ◌++◌, ◌∷◌, ◌∙◌, [], ℕ, List, ap, get_or, length, subst, sym, take}
use Rattle.std.proofs.lemmas.List.{take_more}
use Rattle.std.specs.List.{AllZip}
use Rattle.desk_tables.specs.FileSystems.{fs_of}
use Rattle.desk_tables.specs.declared.filesystems.Mount.{Mount}
use Rattle.desk_remarks.specs.SaidOfSystems.{IsSaidIn}
use Rattle.desk_remarks.specs.declared.said_of_systems.Said.{Said}
use Rattle.desk_remarks.proofs.said_of_systems.said_of_each.Goals as goal

zip_push : {A B : Type 0} (R : A → B → Type 0) (xs : List A) (ys : List B) (x : A) (y : B) → AllZip R xs ys → R x y → AllZip R (xs ++ x ∷ []) (ys ++ y ∷ [])
zip_push R [] [] x y all one = (one, tt)
zip_push R [] (b ∷ ys) x y all one = absurd all
zip_push R (a ∷ xs) [] x y all one = absurd all
zip_push R (a ∷ xs) (b ∷ ys) x y all one = (all.0, zip_push R xs ys x y all.1 one)

one_more : (R : Mount → Said → Type 0) (mounts : List Mount) (i : ℕ) (mount : Mount) (saids new : List Said) (said : Said) → i < length mounts → mount ≡ get_or mounts i mount
    → AllZip R (take i mounts) saids → R mount said → new ≡ saids ++ said ∷ [] → AllZip R (take (i + 1) mounts) new
one_more R mounts i mount saids new said below is all one added =
    let longer : take (i + 1) mounts ≡ take i mounts ++ mount ∷ [] = take_more mounts i mount below ∙ ap (λ (m : Mount). take i mounts ++ m ∷ []) (sym is) in
    subst (λ (ms : List Mount). AllZip R ms new) (sym longer)
    (subst (AllZip R (take i mounts ++ mount ∷ [])) (sym added) (zip_push R (take i mounts) saids mount said all one))

pub loop-mount-preserved : goal.loop-mount-preserved
loop-mount-preserved c =
    one_more (λ (mount : Mount) (said : Said). IsSaidIn c.args.index.now (fs_of c.args.index.now.table mount.path) said) c.args.mounts.now c.loop-mount.mount-index c.mount-item.result
    c.loop-mount.saids c.push.new.self c.in_ok-said.said c.loop-mount-test.true c.mount-item.is c.loop-mount.invariant c.in_ok-said.ensures c.in_ok-push.ensures.added
