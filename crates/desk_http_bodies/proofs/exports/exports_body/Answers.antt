use Rattle.desk_text.specs.Address.{number_of}
use Rattle.desk_http_bodies.proofs.Floats.{exports_have_none, text_is}
use Rattle.desk_http_bodies.proofs.exports.exports_body.Goals as goal

pub returns : goal.returns
returns c =
    text_is _ _ _ c.in_ok-value.ensures (exports_have_none c.args.policy.now (number_of c.args.address) c.args.shown.now) c.to_string.ensures.text
