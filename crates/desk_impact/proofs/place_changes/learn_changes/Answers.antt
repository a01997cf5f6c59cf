use Rattle.std.proofs.Common.{◌≡◌, ◌-◌, ◌∷◌, ◌∙◌, [], ap, arith, length, length-append, map, subst, sym}
use Rattle.desk_tables.specs.FileSystems.{fs_of}
use Rattle.desk_policy.specs.Policy.{Content}
use Rattle.desk_impact.specs.Impact.{AreStartsOfChanges, IsImpact, change_value, verdicts_at}
use Rattle.desk_impact.specs.declared.changes.TwoVerdicts.{TwoVerdicts as KeptVerdicts}
use Rattle.desk_impact.specs.KnownSystems.{fs_number}
use Rattle.desk_impact.specs.Places.{paths_in}
use Rattle.desk_impact.specs.PrivateKnownSystems.{HasLearnedChange}
use Rattle.desk_impact.specs.declared.known_systems.Known.{Known}
use Rattle.desk_impact.proofs.Learned.{learned_change, number_is}
use Rattle.desk_impact.proofs.place_changes.learn_changes.Goals as goal

pub free_path-requires : goal.free_path-requires
free_path-requires g c = c.requires.taken.ascend

pub returns : goal.returns
returns g c =
    let old = g.V.PolicyView.in_force c.args.before.now in
    let new = g.V.PolicyView.in_force c.args.after.now in
    let path = c.args.path.now in
    let is : fs_number c.of-old.result ≡ fs_of old.table path =
    ap fs_number c.of-old.ensures ∙ number_is _ ∙ ap (λ table. fs_of table path) c.filesystems.ensures ∙ ap (λ (one : Content). fs_of one.table path) c.policy.ensures in
    let is' : fs_number c.of-new.result ≡ fs_of new.table path =
    ap fs_number c.of-new.ensures ∙ number_is _ ∙ ap (λ table. fs_of table path) c.filesystems-2.ensures ∙ ap (λ (one : Content). fs_of one.table path) c.policy-2.ensures in
    let one : Known KeptVerdicts = record { old = c.of-old.result; new = c.of-new.result; starts = c.in_ok-starts.starts; found = c.from_vec.result } in
    let known = c.args.known.now.items in
    let other = c.in_ok-other.other in
    let starts : AreStartsOfChanges old new path one.starts =
    subst (λ content. AreStartsOfChanges old content path one.starts) c.policy-4.ensures (subst (λ content. AreStartsOfChanges content c.policy-4.result.now path one.starts) c.policy-3.ensures c.in_ok-starts.ensures) in
    let impact : IsImpact old new (verdicts_at old new other) (map change_value one.found) =
    subst (λ found. IsImpact old new (verdicts_at old new other) (map change_value found)) (sym c.from_vec.ensures) c.in_ok-changes.ensures in
    let last : c.len.result - 1 ≡ length known = omega (arith, c.len.ensures, ap length c.in_ok-push.ensures.items, length-append known (one ∷ [])) in
    subst (λ items. HasLearnedChange old new path items (c.len.result - 1)) (sym c.in_ok-push.ensures.items)
    (learned_change path other (paths_in c.args.taken.now) c.in_ok-other.ensures old new known one (c.len.result - 1) c.requires.taken.all last is is' starts impact c.requires.known)
