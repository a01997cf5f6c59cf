use Rattle.desk_http_bodies.proofs.Floats.{revisions_have_none, text_is}
use Rattle.desk_http_bodies.proofs.revisions.revisions_body.Goals as goal

pub returns : goal.returns
returns c = text_is _ _ _ c.in_ok-value.ensures (revisions_have_none c.args.name.now c.args.revisions.now) c.to_string.ensures.text
