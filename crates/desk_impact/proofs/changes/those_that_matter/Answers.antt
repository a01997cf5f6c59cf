use Rattle.std.proofs.Common.{◌≡◌, ◌∙◌, ◌++◌, List, ap, map, rules}
use Rattle.std.specs.Prelude.{filter}
use Rattle.std.proofs.lemmas.Fn.{filter_same}
use Rattle.desk_impact.specs.Impact.{change_value}
use Rattle.desk_impact.specs.declared.changes.TwoVerdicts.{TwoVerdicts}
use Rattle.desk_who.specs.declared.runs.Run.{Run}
use Rattle.desk_impact.proofs.Telling.{map-filter, matters, matters_decides, matters_is}
use Rattle.desk_impact.proofs.changes.those_that_matter.Goals as goal

pub returns : goal.returns
returns c =
    let compare = c.verdicts_are_discrete.ensures in
    let test = λ (change : Run TwoVerdicts). matters compare (change_value change).value in
    let copied : c.extend_from_slice.new.self.items ≡ c.args.changes.now = c.in_ok-extend_from_slice.ensures.items ∙ ap (λ (items : List (Run TwoVerdicts)). items ++ c.args.changes.now) c.new-chosen.ensures.items in
    let kept : c.retain.new.self.items ≡ filter test c.extend_from_slice.new.self.items = filter_same _ _ _ (λ x b f' k. search (rules, matters_is)) _ _ c.retain.ensures.filtered in
    record {
      test = λ run. matters compare run.value;
      decides = λ run. matters_decides compare run.value;
      are = ap (map change_value) (kept ∙ ap (filter test) copied) ∙ map-filter change_value (λ run. matters compare run.value) c.args.changes.now;
    }
