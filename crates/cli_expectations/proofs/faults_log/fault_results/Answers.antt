use Rattle.std.proofs.Common.{[], ◌++◌, ◌∷◌, ◌∙◌, List, ap, get_or, map, subst, sym, ℕ}
use Rattle.std.proofs.lemmas.List.{map-append, take_all}
use Rattle.serde_json.specs.Data.{Data}
use Rattle.serde_json.specs.View.{view}
use Rattle.desk_text.specs.Place.{LiesWithin}
use Rattle.desk_expect.specs.declared.rules.PlacedFault.{PlacedFault}
use Rattle.cli_expectations.specs.FaultsLog.{fault_result}
use Rattle.cli_expectations.specs.PrivateFaultPrints.{result_among}
use Rattle.cli_expectations.proofs.Gathered.{gathers_one_at, no_fault}
use Rattle.cli_expectations.proofs.faults_log.fault_results.Goals as goal

pub fault_result-requires : goal.fault_result-requires
fault_result-requires c =
    let placed : PlacedFault = get_or c.args.found.now c.loop-placed.placed-index no_fault in
    subst (λ (line : List ℕ). LiesWithin line placed.place) (sym c.line_at.ensures) (c.requires c.loop-placed.placed-index no_fault c.loop-placed-test.true)

pub loop-placed-preserved : goal.loop-placed-preserved
loop-placed-preserved c =
    let lines : List (List ℕ) = map (λ line. line.now) c.args.lines.now in
    let placed : PlacedFault = get_or c.args.found.now c.loop-placed.placed-index no_fault in
    let before : List Data = map view c.loop-placed.values.items in
    gathers_one_at (result_among c.args.path.now lines) c.args.found.now c.loop-placed.placed-index no_fault c.loop-placed-test.true
    [] before (map view c.push.new.self.items) c.loop-placed.invariant
    (ap (map view) c.in_ok-push.ensures.items ∙ map-append view c.loop-placed.values.items (c.in_ok-value.value ∷ [])
    ∙ ap (λ (value : Data). before ++ value ∷ []) (c.in_ok-value.ensures ∙ ap (λ (line : List ℕ). fault_result c.args.path.now line placed) c.line_at.ensures))

pub returns : goal.returns
returns c =
    c.loop-placed.invariant
    ∙ ap (map (result_among c.args.path.now (map (λ line. line.now) c.args.lines.now))) (take_all c.loop-placed.placed-index c.args.found.now c.loop-placed-test.false)
