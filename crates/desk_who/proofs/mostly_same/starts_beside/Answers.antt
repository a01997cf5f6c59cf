use Rattle.std.proofs.Common.{◌+◌, ◌++◌, ◌∷◌, ◌∙◌, [], ℕ, List, ap, map}
use Rattle.std.specs.List.{flat_map}
use Rattle.std.proofs.lemmas.List.{map-append, take_all}
use Rattle.desk_text.specs.Address.{number_of}
use Rattle.desk_text.specs.AddrSet.{sorted_set}
use Rattle.desk_who.specs.PrivateMostlySame.{bounds_of}
use Rattle.desk_who.specs.PrivateStarts.{kept}
use Rattle.desk_who.specs.Runs.{run_value}
use Rattle.desk_who.specs.declared.runs.Run.{Run as KeptRun}
use Rattle.desk_who.proofs.Gathered.{writes}
use Rattle.desk_who.proofs.mostly_same.starts_beside.Goals as goal

pub loop-run-preserved : goal.loop-run-preserved
loop-run-preserved g c =
    let meaning = g.T.Alike.meaning in
    let run = c.run-item.result in
    let now = map number_of c.loop-run.starts.items in
    writes c.args.others.now c.loop-run.run-index run c.loop-run-test.true c.run-item.is (λ one. bounds_of (run_value meaning one)) [] now (map number_of c.push_both.new.starts.items) c.loop-run.invariant
    (c.in_ok-push_both.ensures ∙ ap (λ n. now ++ kept (n ∷ (c.from.result + 1) ∷ [])) c.number.ensures ∙ ap (λ n. now ++ kept (number_of run.first ∷ (n + 1) ∷ [])) (c.from.ensures ∙ c.number-in-loop-run.ensures))

pub returns : goal.returns
returns g c =
    let bounds : KeptRun _ → List ℕ = λ run. bounds_of (run_value g.T.Alike.meaning run) in
    let others = c.args.others.now in
    c.from_vec.ensures
    ∙ ap sorted_set
    (ap (map number_of) c.in_ok-extend_from_slice.ensures.items ∙ map-append number_of c.loop-run.starts.items c.as_slice.result.now
    ∙ ap (λ ns. ns ++ map number_of c.as_slice.result.now) (c.loop-run.invariant ∙ ap (flat_map bounds) (take_all c.loop-run.run-index others c.loop-run-test.false))
    ∙ ap (λ ns. flat_map bounds others ++ ns) c.as_slice.ensures.value)
