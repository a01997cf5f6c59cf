use Rattle.std.proofs.Common.{◌∙◌, List, ap, map, sym, take}
use Rattle.std.proofs.lemmas.List.{take_all}
use Rattle.cli_expectations.specs.BreachesJson.{breach_value}
use Rattle.cli_expectations.specs.NamedLines.{lines_once}
use Rattle.cli_expectations.specs.PrivateNamedLines.{with_once}
use Rattle.cli_expectations.specs.declared.breaches_json.Breach.{Breach}
use Rattle.cli_expectations.specs.declared.named_lines.NamedLine.{NamedLine}
use Rattle.cli_expectations.proofs.ListedOnce.{lines_more}
use Rattle.cli_expectations.proofs.named_lines.lines_once.Goals as goal

pub loop-breach-preserved : goal.loop-breach-preserved
loop-breach-preserved c =
    c.in_ok-push_once.ensures
    ∙ ap (λ (lines : List NamedLine). with_once lines c.line_named.result) c.loop-breach.invariant
    ∙ ap (with_once (lines_once (map breach_value (take c.loop-breach.breach-index c.args.breaches.now)))) c.line_named.ensures
    ∙ sym (lines_more c.args.breaches.now c.loop-breach.breach-index c.breach-item.result c.loop-breach-test.true c.breach-item.is)

pub returns : goal.returns
returns c = c.loop-breach.invariant ∙ ap (λ (breaches : List Breach). lines_once (map breach_value breaches)) (take_all c.loop-breach.breach-index c.args.breaches.now c.loop-breach-test.false)
