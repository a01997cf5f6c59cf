use Rattle.desk_json.proofs.Floats.{log_has_none, text_is}
use Rattle.desk_json.proofs.log.log_object.Goals as goal

pub returns : goal.returns
returns c = text_is _ _ _ c.in_ok-value.ensures (log_has_none c.args.name.now c.args.revisions.now) c.to_string.ensures.text
