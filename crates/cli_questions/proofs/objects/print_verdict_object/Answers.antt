-- The object is that of the verdict.
use Rattle.std.proofs.Common.{None}
use Rattle.serde_json.specs.Written.{compact_text}
use Rattle.desk_policy.specs.Verdict.{verdict_result}
use Rattle.desk_http_bodies.specs.Verdicts.{verdict_data}
use Rattle.cli_questions.proofs.objects.print_verdict_object.Goals as goal

pub returns : goal.returns
returns c = record {
  status_is = c.verdict_status.ensures;
  text_is = c.in_ok-line.ensures (compact_text (verdict_data c.args.policy.now None (verdict_result c.args.verdict.now))) c.verdict_body.ensures;
}
