use Rattle.std.proofs.Common.{◌≡◌, ◌∙◌, Bor, map, subst, sym}
use Rattle.std.proofs.lemmas.Result.{IfOk-weaker}
use Rattle.desk_tables.specs.FileSystems.{fs_of}
use Rattle.desk_policy.specs.declared.row.Row.{Row}
use Rattle.desk_who.specs.MostlySame.{AreStartsWithin}
use Rattle.desk_impact.specs.MostlySame.{IsImpactBeside}
use Rattle.desk_impact.specs.Impact.{IsImpact, change_value, verdicts_at}
use Rattle.desk_impact.specs.Places.{Others, place_verdicts}
use Rattle.desk_impact.proofs.Together.{verdicts_go}
use Rattle.desk_impact.proofs.place_changes.changes_beside.Goals as goal

pub writers-requires : goal.writers-requires
writers-requires g c = c.requires.writings.order

pub starts_within-requires : goal.starts_within-requires
starts_within-requires g c = c.requires.known.starts.behind

pub impact_beside-requires : goal.impact_beside-requires
impact_beside-requires g c = c.in_ok-decided.ensures.behind

pub returns : goal.returns
returns g c =
    let old = g.V.PolicyView.in_force c.args.before.now in
    let new = g.V.PolicyView.in_force c.args.after.now in
    let path = c.args.path.now in
    let known = c.args.known.now in
    let home = c.requires.known.path in
    let given = map change_value c.as_slice-2.result.now in
    let rows = map (λ (r : Bor Row). r.now) c.in_ok-rows.rows.items in
    let decided = c.in_ok-decided.decided in
    let same : fs_of old.table path ≡ fs_of old.table home = sym c.requires.old ∙ c.requires.known.old_is in
    let same' : fs_of new.table path ≡ fs_of new.table home = sym c.requires.new ∙ c.requires.known.new_is in
    let within : AreStartsWithin known.starts rows decided =
    subst (λ items. AreStartsWithin known.starts (map (λ (r : Bor Row). r.now) items) decided) c.as_slice.ensures.value c.in_ok-decided.ensures in
    let others : IsImpact old new (place_verdicts old new (Others home)) given =
    subst (λ found. IsImpact old new (place_verdicts old new (Others home)) (map change_value found)) (sym c.as_slice-2.ensures) c.requires.known.changes in
    let go = verdicts_go old new home path same same' c.args.writings.now c.requires.writings rows c.in_ok-rows.ensures known.starts decided c.requires.known.starts within in
    IfOk-weaker c.impact_beside.result (λ changes. IsImpactBeside old new (verdicts_at old new path) given decided (map change_value changes.items))
    (λ changes. IsImpact old new (verdicts_at old new path) (map change_value changes.items))
    (λ changes beside. beside (place_verdicts old new (Others home)) others go) c.impact_beside.ensures
