use Rattle.desk_http_bodies.proofs.Floats.{refused_has_none, text_is}
use Rattle.desk_http_bodies.proofs.edits.refusal_body.Goals as goal

pub returns : goal.returns
returns c = text_is _ _ _ c.in_ok-value.ensures (refused_has_none c.args.refusal.now) c.to_string.ensures.text
