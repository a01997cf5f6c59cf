use Rattle.std.proofs.Common.{map, rules}
use Rattle.std.specs.Option.{option_map}
use Rattle.std.proofs.lemmas.Result.{IfOk-weaker}
use Rattle.desk_text.specs.Address.{number_of}
use Rattle.desk_impact.specs.MostlySame.{IsImpactBeside}
use Rattle.desk_impact.specs.Impact.{change_value, two_verdicts, verdicts_at}
use Rattle.desk_impact.specs.PrivateMostlySame.{IsChangeAt}
use Rattle.desk_impact.proofs.Telling.{told_changes}
use Rattle.desk_impact.proofs.ToldChanges.{from_told, told_at, told_is, told_together}
use Rattle.desk_impact.proofs.mostly_same.impact_beside.Goals as goal

pub returns : goal.returns
returns g c =
    let before = g.V.PolicyView.in_force c.args.before.now in
    let after = g.V.PolicyView.in_force c.args.after.now in
    let others = map change_value c.args.others.now in
    let decided = c.args.decided.now in
    let compare = c.verdicts_are_discrete.ensures in
    let pass = c.runs_pass_tests.ensures in
    let verdicts = verdicts_at before after c.args.path.now in
    IfOk-weaker c.runs_beside.result _ (λ changes. IsImpactBeside before after verdicts others decided (map change_value changes.items))
    (λ changes beside other_at impact go.
    from_told compare before after c.runs_exist.ensures pass c.runs_with_value_are_unique.ensures verdicts (map change_value changes.items)
    (beside (told_at compare before after verdicts) (told_at compare before after other_at)
    (λ address value asked gives.
    let at : IsChangeAt before after (verdicts (number_of address)) (option_map two_verdicts value) = search rules in
    told_is compare before after (verdicts (number_of address)) (option_map two_verdicts value) at)
    (told_changes compare pass before after other_at others impact) (told_together compare before after verdicts other_at decided go)))
    c.runs_beside.ensures
