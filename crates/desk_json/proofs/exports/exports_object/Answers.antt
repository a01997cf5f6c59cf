use Rattle.desk_json.proofs.Floats.{all_exports_have_none, text_is}
use Rattle.desk_json.proofs.exports.exports_object.Goals as goal

pub returns : goal.returns
returns c = text_is _ _ _ c.in_ok-value.ensures (all_exports_have_none c.args.policy.now) c.to_string.ensures.text
