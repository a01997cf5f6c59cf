use Rattle.desk_policy.specs.Verdict.{verdict_result}
use Rattle.desk_json.proofs.Floats.{named_has_none, text_is}
use Rattle.desk_json.proofs.named.verdict_object.Goals as goal

pub returns : goal.returns
returns c = text_is _ _ _ c.in_ok-value.ensures (named_has_none c.args.policy.now c.args.own.now (verdict_result c.args.verdict.now)) c.to_string.ensures.text
