use Rattle.std.proofs.Common.{◌≡◌, ◌<◌, ◌+◌, ◌∙◌, ℕ, List, ap, get_or, length, map, sym, take, take_all}
use Rattle.std.specs.List.{fold}
use Rattle.std.proofs.lemmas.List.Folds.{fold-map}
use Rattle.std.proofs.lemmas.List.Sums.{fold_more}
use Rattle.desk_who.specs.Runs.{Run}
use Rattle.desk_who.specs.declared.runs.Run.{Run as KeptRun}
use Rattle.page_data.specs.Class.{most_of}
use Rattle.page_data.specs.Classes.{class_run}
use Rattle.page_data.specs.declared.class.Class.{Class}
use Rattle.page_data.specs.declared.class.Class.TheVariants.{Denied}
use Rattle.page_summary.proofs.reach.most_among.Goals as goal

abbrev step : Class → KeptRun Class → Class
step most run = most_of most run.value

step_more : (runs : List (KeptRun Class)) (i : ℕ) (d : KeptRun Class) (most next : Class) → i < length runs → most ≡ fold step Denied (take i runs)
    → next ≡ most_of most (get_or runs i d).value → next ≡ fold step Denied (take (i + 1) runs)
step_more runs i d most next within before is = is ∙ ap (λ m. most_of m (get_or runs i d).value) before ∙ sym (fold_more step Denied runs i d within)

pub loop-run-preserved : goal.loop-run-preserved
loop-run-preserved c = step_more c.args.runs.now c.loop-run.run-index _ c.loop-run.most c.most-most.result c.loop-run-test.true c.loop-run.invariant c.most-most.ensures

pub returns : goal.returns
returns c =
    let runs = c.args.runs.now in
    c.loop-run.invariant ∙ ap (fold step Denied) (take_all c.loop-run.run-index runs c.loop-run-test.false)
    ∙ sym (fold-map most_of (λ (run : Run Class). run.value) Denied (map class_run runs) ∙ fold-map (λ most (run : Run Class). most_of most run.value) class_run Denied runs)
