use Rattle.std.proofs.Common.{◌++◌, ◌∙◌, List, ap, get_or, map, sym}
use Rattle.std.proofs.lemmas.List.{append-nil, get_or_default, take_all}
use Rattle.desk_who.specs.Runs.{run_value}
use Rattle.desk_who.specs.declared.runs.Run.{Run as KeptRun}
use Rattle.desk_impact.specs.Places.{place_of}
use Rattle.page_data.specs.Opening as openings
use Rattle.page_data.specs.declared.opening.Opening.{Opening}
use Rattle.page_places.specs.Openings.{OpeningValue, opening_value}
use Rattle.page_places.specs.ListedOpenings.{opened_by}
use Rattle.page_places.proofs.Gathered.{gathers}
use Rattle.page_places.proofs.Opened.{map_twice}
use Rattle.page_places.proofs.listed_openings.push_opened.Goals as goal

pub loop-run-init : goal.loop-run-init
loop-run-init c = sym (append-nil (map opening_value c.args.all.now.items))

pub loop-run-preserved : goal.loop-run-preserved
loop-run-preserved c =
    let of : KeptRun Opening → OpeningValue = λ run. opened_by (place_of c.args.place) (run_value openings.opening_value run) in
    let ranges : List (KeptRun Opening) = c.args.ranges.now in
    let i = c.loop-run.run-index in
    let none : KeptRun Opening = record { first = record { number = 0 }; last = record { number = 0 }; value = record { denied = 0; line = 0 } } in
    let run : KeptRun Opening = get_or ranges i none in
    gathers of ranges i run c.loop-run-test.true (get_or_default ranges i none run c.loop-run-test.true) opening_value (map opening_value c.args.all.now.items)
    c.loop-run.all.items c.push.new.self.items c.opened_at.result c.in_ok-push.ensures.items c.opened_at.ensures c.loop-run.invariant

pub returns : goal.returns
returns c =
    let of : KeptRun Opening → OpeningValue = λ run. opened_by (place_of c.args.place) (run_value openings.opening_value run) in
    c.loop-run.invariant
    ∙ ap (λ runs. map opening_value c.args.all.now.items ++ map of runs) (take_all c.loop-run.run-index c.args.ranges.now c.loop-run-test.false)
    ∙ sym (ap (λ some. map opening_value c.args.all.now.items ++ some) (map_twice (run_value openings.opening_value) (opened_by (place_of c.args.place)) c.args.ranges.now))
