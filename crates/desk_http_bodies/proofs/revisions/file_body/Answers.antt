use Rattle.desk_http_bodies.proofs.Floats.{file_has_none, text_is}
use Rattle.desk_http_bodies.proofs.revisions.file_body.Goals as goal

pub returns : goal.returns
returns c = text_is _ _ _ c.in_ok-value.ensures (file_has_none c.args.name.now c.args.text.now) c.to_string.ensures.text
