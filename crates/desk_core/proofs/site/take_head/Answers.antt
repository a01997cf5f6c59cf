use Rattle.std.proofs.Common.{◌≡◌, OnOk, subst}
use Rattle.desk_policy.specs.Site.{texts_of}
use Rattle.desk_core.specs.PrivateSite.{with_text}
use Rattle.desk_core.proofs.site.take_head.Goals as goal

pub returns : goal.returns
returns c =
    let head = c.args.head.now in
    let own = subst (λ file. OnOk c.take_text.result (texts_of c.take_text.new.site ≡ with_text (texts_of c.args.site.now) file (record { profile = head.profile; body = c.as_str-body.result.now }))) c.as_str-file.ensures c.take_text.ensures in
    subst (λ body. OnOk c.take_text.result (texts_of c.take_text.new.site ≡ with_text (texts_of c.args.site.now) head.file (record { profile = head.profile; body = body }))) c.as_str-body.ensures own
