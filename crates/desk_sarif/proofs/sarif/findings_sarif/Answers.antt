use Rattle.std.proofs.Common.{◌∙◌, ap}
use Rattle.std.specs.Option.{option_map}
use Rattle.serde_json.specs.View.{items_of}
use Rattle.serde_json.specs.Written.{items_have_float}
use Rattle.desk_sarif.proofs.LogFloats.{results_have_none, rules_have_none}
use Rattle.desk_sarif.proofs.sarif.findings_sarif.Goals as goal

pub log_text-requires-clause-rules : goal.log_text-requires-clause-rules
log_text-requires-clause-rules c = ap (λ values. items_have_float (items_of values)) c.in_ok-rules.ensures ∙ rules_have_none

pub log_text-requires-clause-results : goal.log_text-requires-clause-results
log_text-requires-clause-results c =
    ap (λ values. items_have_float (items_of values)) c.in_ok-results.ensures ∙ results_have_none (option_map (λ numbers. numbers.now) c.args.ignored) c.args.findings.now
