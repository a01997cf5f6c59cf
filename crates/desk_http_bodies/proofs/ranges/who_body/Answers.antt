use Rattle.std.proofs.Common.{map}
use Rattle.desk_who.specs.Who.{range_value}
use Rattle.desk_http_bodies.proofs.Floats.{text_is, who_have_none}
use Rattle.desk_http_bodies.proofs.ranges.who_body.Goals as goal

pub returns : goal.returns
returns c =
    text_is _ _ _ c.in_ok-value.ensures (who_have_none c.args.policy.now c.args.path.now (map range_value c.args.ranges.now)) c.to_string.ensures.text
