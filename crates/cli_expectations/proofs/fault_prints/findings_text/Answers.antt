use Rattle.std.proofs.Common.{[], ◌++◌, ◌∙◌, List, ap, get_or, map, subst, sym, ℕ}
use Rattle.std.specs.List.{flat_map}
use Rattle.std.specs.String.{string_bytes}
use Rattle.std.proofs.lemmas.List.{take_all}
use Rattle.desk_text.specs.Place.{LiesWithin}
use Rattle.desk_expect.specs.declared.rules.PlacedFault.{PlacedFault}
use Rattle.cli_expectations.specs.FaultPrints.{finding_text}
use Rattle.cli_expectations.specs.PrivateFaultPrints.{finding_among}
use Rattle.cli_expectations.proofs.Gathered.{gathers_at, no_fault}
use Rattle.cli_expectations.proofs.fault_prints.findings_text.Goals as goal

pub push_finding-requires : goal.push_finding-requires
push_finding-requires c =
    let placed : PlacedFault = get_or c.args.found.now c.loop-placed.placed-index no_fault in
    subst (λ (line : List ℕ). LiesWithin line placed.place) (sym c.line_at.ensures) (c.requires c.loop-placed.placed-index no_fault c.loop-placed-test.true)

pub loop-placed-preserved : goal.loop-placed-preserved
loop-placed-preserved c =
    let lines : List (List ℕ) = map (λ line. line.now) c.args.lines.now in
    let before : List ℕ = string_bytes c.loop-placed.note in
    let placed : PlacedFault = get_or c.args.found.now c.loop-placed.placed-index no_fault in
    gathers_at (finding_among c.args.path.now lines) c.args.found.now c.loop-placed.placed-index no_fault c.loop-placed-test.true
    [] before (string_bytes c.push_finding.new.text) c.loop-placed.invariant
    (c.in_ok-push_finding.ensures ∙ ap (λ (line : List ℕ). before ++ finding_text c.args.path.now line placed) c.line_at.ensures)

pub returns : goal.returns
returns c =
    c.loop-placed.invariant
    ∙ ap (flat_map (finding_among c.args.path.now (map (λ line. line.now) c.args.lines.now))) (take_all c.loop-placed.placed-index c.args.found.now c.loop-placed-test.false)
