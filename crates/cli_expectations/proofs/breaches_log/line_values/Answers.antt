use Rattle.std.proofs.Common.{[], ◌++◌, ◌∷◌, ◌∙◌, List, ap, map}
use Rattle.std.specs.Option.{option_map}
use Rattle.std.proofs.lemmas.List.{map-append}
use Rattle.serde_json.specs.Data.{Data}
use Rattle.serde_json.specs.View.{view}
use Rattle.cli_expectations.specs.BreachesLog.{line_data}
use Rattle.cli_expectations.specs.declared.named_lines.NamedLine.{NamedLine}
use Rattle.cli_expectations.proofs.Gathered.{gathers_one_at}
use Rattle.cli_expectations.proofs.breaches_log.line_values.Goals as goal

-- what is read where a list ends
abbrev no_line : NamedLine
no_line = record { fs = record { 0 = 0 }; line = 0 }

pub loop-line-preserved : goal.loop-line-preserved
loop-line-preserved c =
    let before : List Data = map view c.loop-line.values.items in
    gathers_one_at (line_data (option_map (λ path. path.now) c.args.exports) c.args.policy.now) c.args.lines.now c.loop-line.line-index no_line c.loop-line-test.true
    [] before (map view c.push.new.self.items) c.loop-line.invariant
    (ap (map view) c.in_ok-push.ensures.items ∙ map-append view c.loop-line.values.items (c.in_ok-named_value.field-0 ∷ [])
    ∙ ap (λ (value : Data). before ++ value ∷ []) c.in_ok-named_value.ensures)
