use Rattle.std.proofs.Common.{◌≡◌, ◌∙◌, ap, map, refl, List, rules}
use Rattle.std.specs.Prelude.{Option}
use Rattle.std.specs.Option.{option_map}
use Rattle.std.proofs.lemmas.Result.{IfOk-weaker}
use Rattle.desk_who.specs.Runs.{AreRunsWithValue, run_value, those_with_value}
use Rattle.desk_who.specs.Searching.{ByRule, found_at}
use Rattle.desk_who.specs.declared.runs.Run.{Run}
use Rattle.desk_who.proofs.searching.found_runs.Goals as goal

pub longest_runs-requires-clause-behind : goal.longest_runs-requires-clause-behind
longest_runs-requires-clause-behind g c = c.in_ok-starts.ensures.behind

pub returns : goal.returns
returns g c =
    let meaning = g.T.Alike.meaning in
    let sought = c.args.search.now in
    let path = c.args.path.now in
    let content = g.S.Search.in_force sought in
    let by_value = λ (runs : List (Run (Option _))). map (run_value (option_map meaning)) runs in
    IfOk-weaker c.those_with_value.result (λ runs. map (run_value meaning) runs.items ≡ those_with_value (by_value c.as_slice.result.now))
    (λ runs. ByRule meaning (g.S.Search.found sought) content (g.S.Search.turns sought) (λ rule. AreRunsWithValue (found_at rule content path) (map (run_value meaning) runs.items)))
    (λ runs is rule of. record {
      whole = by_value c.in_ok-runs.runs.items;
      runs = c.in_ok-runs.ensures (found_at rule content path) (λ address value asked gives. of.finds address path value (search rules)) (c.in_ok-starts.ensures.starts rule of path refl);
      are = is ∙ ap (λ rs. those_with_value (by_value rs)) c.as_slice.ensures.value;
    })
    c.those_with_value.ensures
