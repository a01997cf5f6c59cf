use Rattle.std.proofs.Common.{◌≡◌, ◌∙◌, ◌++◌, [], ◌∷◌, List, ap, map, refl}
use Rattle.std.specs.List.{flat_map}
use Rattle.std.specs.String.{string_bytes}
use Rattle.std.proofs.lemmas.List.{take_all}
use Rattle.desk_policy.specs.Policy.{Content}
use Rattle.desk_impact.specs.Impact.{change_value}
use Rattle.desk_impact.specs.ImpactPrints.{change_lines}
use Rattle.desk_impact.specs.declared.changes.TwoVerdicts.{TwoVerdicts}
use Rattle.desk_who.specs.declared.runs.Run.{Run}
use Rattle.desk_impact.proofs.Gathered.{writes}
use Rattle.desk_impact.proofs.change_prints.impact_text.Goals as goal

by_values : (before after : Content) (changes : List (Run TwoVerdicts)) → flat_map (λ (change : Run TwoVerdicts). change_lines before after (change_value change)) changes ≡ flat_map (change_lines before after) (map change_value changes)
by_values before after [] = refl
by_values before after (change ∷ changes) = ap (λ ys. change_lines before after (change_value change) ++ ys) (by_values before after changes)

pub loop-change-preserved : goal.loop-change-preserved
loop-change-preserved c =
    writes c.args.changes.now c.loop-change.change-index c.change-item.result c.loop-change-test.true c.change-item.is
    (λ (change : Run TwoVerdicts). change_lines c.args.before.now c.args.after.now (change_value change)) [] (string_bytes c.loop-change.text) (string_bytes c.push_lines.new.text) c.loop-change.invariant c.in_ok-push_lines.ensures

pub returns : goal.returns
returns c =
    c.loop-change.invariant
    ∙ ap (flat_map (λ (change : Run TwoVerdicts). change_lines c.args.before.now c.args.after.now (change_value change))) (take_all c.loop-change.change-index c.args.changes.now c.loop-change-test.false)
    ∙ by_values c.args.before.now c.args.after.now c.args.changes.now
