use Rattle.std.proofs.Common.{◌∙◌, ap, map}
use Rattle.std.specs.Option.{option_map}
use Rattle.serde_json.specs.View.{items_of}
use Rattle.serde_json.specs.Written.{items_have_float}
use Rattle.desk_expect.specs.Report.{broken_value}
use Rattle.cli_expectations.proofs.LogFloats.{broken_have_none, rules_have_none}
use Rattle.cli_expectations.proofs.breaches_log.broken_log.Goals as goal

pub log_text-requires-clause-rules : goal.log_text-requires-clause-rules
log_text-requires-clause-rules c = ap (λ values. items_have_float (items_of values)) c.in_ok-rules.ensures ∙ rules_have_none

pub log_text-requires-clause-results : goal.log_text-requires-clause-results
log_text-requires-clause-results c =
    ap (λ values. items_have_float (items_of values)) c.in_ok-results.ensures
    ∙ broken_have_none (option_map (λ path. path.now) c.args.exports) c.args.policy.now c.args.path.now (map broken_value c.args.broken.now)
