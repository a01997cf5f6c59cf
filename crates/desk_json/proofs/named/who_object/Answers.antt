use Rattle.std.proofs.Common.{map}
use Rattle.desk_who.specs.Who.{range_value}
use Rattle.desk_json.proofs.Floats.{text_is, who_has_none}
use Rattle.desk_json.proofs.named.who_object.Goals as goal

pub returns : goal.returns
returns c =
    text_is _ _ _ c.in_ok-value.ensures (who_has_none c.args.policy.now c.args.path.now (map range_value c.args.ranges.now)) c.to_string.ensures.text
