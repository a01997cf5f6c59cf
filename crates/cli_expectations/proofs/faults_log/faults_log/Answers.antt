use Rattle.std.proofs.Common.{◌∙◌, ap, map}
use Rattle.serde_json.specs.View.{items_of}
use Rattle.serde_json.specs.Written.{items_have_float}
use Rattle.cli_expectations.proofs.LogFloats.{faults_have_none, rules_have_none}
use Rattle.cli_expectations.proofs.faults_log.faults_log.Goals as goal

pub log_text-requires-clause-rules : goal.log_text-requires-clause-rules
log_text-requires-clause-rules c = ap (λ values. items_have_float (items_of values)) c.in_ok-rules.ensures ∙ rules_have_none

pub log_text-requires-clause-results : goal.log_text-requires-clause-results
log_text-requires-clause-results c =
    ap (λ values. items_have_float (items_of values)) c.in_ok-results.ensures ∙ faults_have_none c.args.path.now (map (λ line. line.now) c.args.lines.now) c.args.found.now
