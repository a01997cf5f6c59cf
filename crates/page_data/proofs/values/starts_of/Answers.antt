use Rattle.std.proofs.Common.{◌∙◌, [], ap, map}
use Rattle.std.specs.List.{flat_map}
use Rattle.std.proofs.lemmas.List.{take_all}
use Rattle.desk_text.specs.Address.{number_of}
use Rattle.desk_who.specs.Runs.{run_value}
use Rattle.page_data.specs.PrivateValues.{start_at}
use Rattle.page_data.proofs.Beginning.{behind_starts, firsts_by_value, its_starts}
use Rattle.page_data.proofs.Gathered.{writes}
use Rattle.page_data.proofs.values.starts_of.Goals as goal

pub loop-run-preserved : goal.loop-run-preserved
loop-run-preserved g c =
    writes c.args.runs.now c.loop-run.run-index c.run-item.result c.loop-run-test.true c.run-item.is (λ run. start_at (number_of run.first)) [] (map number_of c.loop-run.starts.items)
    (map number_of c.push_start.new.starts.items) c.loop-run.invariant c.in_ok-push_start.ensures

pub returns-clause-behind : goal.returns-clause-behind
returns-clause-behind g c =
    let meaning = g.T.Alike.meaning in
    let runs = c.args.runs.now in
    let all = c.loop-run.invariant ∙ ap (flat_map (λ run. start_at (number_of run.first))) (take_all c.loop-run.run-index runs c.loop-run-test.false) ∙ firsts_by_value meaning runs in
    behind_starts c.sorted_sets_are_unique.ensures (map (run_value meaning) runs) (map number_of c.loop-run.starts.items) c.from_vec.result all c.from_vec.ensures

pub returns-clause-starts : goal.returns-clause-starts
returns-clause-starts g c =
    let meaning = g.T.Alike.meaning in
    let runs = c.args.runs.now in
    let all = c.loop-run.invariant ∙ ap (flat_map (λ run. start_at (number_of run.first))) (take_all c.loop-run.run-index runs c.loop-run-test.false) ∙ firsts_by_value meaning runs in
    its_starts c.sorted_sets_are_unique.ensures (map (run_value meaning) runs) (map number_of c.loop-run.starts.items) c.from_vec.result all c.from_vec.ensures
