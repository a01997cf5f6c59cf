use Rattle.std.proofs.Common.{◌≡◌, ◌++◌, ◌∙◌, IfOk, List, ap, map, subst}
use Rattle.desk_expect.specs.Report.{broken_value}
use Rattle.cli_expectations.specs.BreachesJson.{BreachValue, breach_value, breaches_of}
use Rattle.cli_expectations.specs.NamedLines.{lines_once}
use Rattle.cli_expectations.specs.declared.breaches_json.Breach.{Breach}
use Rattle.cli_expectations.proofs.named_lines.breaking_lines.Goals as goal

pub returns : goal.returns
returns c =
    subst (λ (breaches : List BreachValue). IfOk c.lines_once.result (λ lines. lines.items ≡ lines_once breaches))
    (ap (map breach_value) c.as_slice.ensures.value ∙ c.in_ok-push_broken.ensures
    ∙ ap (λ (found : List Breach). map breach_value found ++ breaches_of (broken_value c.args.broken.now)) c.new-found.ensures.items) c.lines_once.ensures
