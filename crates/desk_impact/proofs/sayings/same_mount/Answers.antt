-- Two mount points are the same exactly if they are equal as paths.
use Rattle.std.proofs.Common.{◌≡◌, ◌∙◌, ℕ, List, Some, ap, sym}
use Rattle.std.specs.Prelude.{slice_get}
use Rattle.std.specs.Option.{option_map}
use Rattle.std.proofs.lemmas.Slice.Eq.{bytes_eq-Decides, slice_eq-Decides}
use Rattle.desk_tables.specs.declared.filesystems.Mount.{Mount}
use Rattle.desk_impact.specs.Impact.{mount_at}
use Rattle.desk_impact.proofs.sayings.same_mount.Goals as goal

same_some : {X : Type 0} (x y : X) → Some x ≡ Some y → x ≡ y
same_some x y e = cc

pub returns-in-Some-Some : goal.returns-in-Some-Some
returns-in-Some-Some c =
    let path = c.in-Some-Some.path.now in
    let other = c.in-Some-Some.other.now in
    let same = slice_eq-Decides bytes_eq-Decides other path c.eq.result c.eq.ensures.same in
    let at : ℕ → List Mount → _ = λ fs table. option_map (λ (mount : Mount). mount.path) (slice_get table fs) in
    let was : Some path ≡ mount_at c.args.before.now c.args.fs.0 = c.in-Some-Some.ensures ∙ ap (at c.args.fs.0) c.filesystems.ensures in
    let will : Some other ≡ mount_at c.args.after.now c.args.other.0 = c.in-Some-Some.ensures' ∙ ap (at c.args.other.0) c.filesystems-2.ensures in
    (λ e. sym will ∙ ap Some (same.0 e) ∙ was, λ e. same.1 (same_some other path (will ∙ e ∙ sym was)))
