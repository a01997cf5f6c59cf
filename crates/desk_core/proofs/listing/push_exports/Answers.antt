use Rattle.std.proofs.Common.{[], ◌++◌, ◌∙◌, ap, get_or, map, refl, sym, Bor, List, ℕ}
use Rattle.std.proofs.lemmas.List.{append-nil, take_all}
use Rattle.desk_core.specs.Standing.{standing_in}
use Rattle.desk_core.specs.Listing.{exports_file, file_of}
use Rattle.desk_core.proofs.FileLists.{map_twice, maps_next}
use Rattle.desk_core.proofs.listing.push_exports.Goals as goal

pub loop-mount-init : goal.loop-mount-init
loop-mount-init c = sym (append-nil (map file_of c.args.files.now.items))

pub loop-mount-preserved : goal.loop-mount-preserved
loop-mount-preserved c =
    let none : Bor (List ℕ) = record { ref_ptr = (0, 0); now = [] } in
    maps_next (λ (mount : Bor (List ℕ)). exports_file (standing_in c.args.heads.now c.args.proposals.now) mount.now)
    c.args.mounts.now c.loop-mount.mount-index (get_or c.args.mounts.now c.loop-mount.mount-index none) none c.loop-mount-test.true refl
    (map file_of c.args.files.now.items) (map file_of c.loop-mount.files.items) (map file_of c.push_mount.new.files.items) c.loop-mount.invariant c.in_ok-push_mount.ensures

pub returns : goal.returns
returns c =
    let made = exports_file (standing_in c.args.heads.now c.args.proposals.now) in
    c.loop-mount.invariant
    ∙ ap (λ ms. map file_of c.args.files.now.items ++ map (λ (mount : Bor (List ℕ)). made mount.now) ms) (take_all c.loop-mount.mount-index c.args.mounts.now c.loop-mount-test.false)
    ∙ ap (λ t. map file_of c.args.files.now.items ++ t) (map_twice made (λ (mount : Bor (List ℕ)). mount.now) c.args.mounts.now)
