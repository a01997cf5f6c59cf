use Rattle.std.proofs.Common.{◌≡◌, ◌∙◌, ap, map, refl, rules}
use Rattle.std.specs.Prelude.{filter}
use Rattle.std.proofs.lemmas.Fn.{filter_same}
use Rattle.desk_impact.specs.Impact.{change_value, verdicts_at}
use Rattle.desk_impact.specs.declared.changes.TwoVerdicts.{TwoVerdicts}
use Rattle.desk_who.specs.declared.runs.Run.{Run}
use Rattle.desk_impact.proofs.Telling.{map-filter, says_otherwise, says_otherwise_decides, says_otherwise_is}
use Rattle.desk_impact.proofs.changes.impact.Goals as goal

pub longest_runs-requires-clause-behind : goal.longest_runs-requires-clause-behind
longest_runs-requires-clause-behind g c = (c.in_ok-starts.ensures c.args.path.now refl refl).behind

pub returns : goal.returns
returns g c =
    let before = g.V.PolicyView.in_force c.args.before.now in
    let after = g.V.PolicyView.in_force c.args.after.now in
    let compare = c.verdicts_are_discrete.ensures in
    let changes = c.in_ok-changes.changes.items in
    let starts = rw (c.policy-old.ensures, c.policy-new.ensures) at c.in_ok-starts.ensures in
    let test = λ (change : Run TwoVerdicts). says_otherwise compare c.policy-old.result.now c.policy-new.result.now (change_value change).value in
    let kept : c.retain.new.self.items ≡ filter test changes = filter_same _ _ _ (λ x b f' k. search (rules, says_otherwise_is)) _ _ c.retain.ensures.filtered in
    let chosen = rw (c.policy-old.ensures, c.policy-new.ensures) at kept in
    record {
      whole = map change_value changes;
      runs = c.in_ok-changes.ensures (verdicts_at before after c.args.path.now) (λ address verdicts asked gives. search rules) (starts c.args.path.now refl refl);
      chosen = record {
        test = λ run. says_otherwise compare before after run.value;
        decides = λ run. says_otherwise_decides compare before after run.value;
        are = ap (map change_value) chosen ∙ map-filter change_value (λ run. says_otherwise compare before after run.value) changes;
      };
    }
