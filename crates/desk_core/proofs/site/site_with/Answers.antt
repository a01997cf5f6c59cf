use Rattle.std.proofs.Common.{◌∙◌, ap}
use Rattle.desk_core.specs.Foresight.{revision_with}
use Rattle.desk_core.specs.Head.{newest_in}
use Rattle.desk_core.specs.Site.{revision_text}
use Rattle.desk_core.specs.PrivateSite.{with_text}
use Rattle.desk_core.proofs.SiteLemmas.{site_put}
use Rattle.desk_core.proofs.site.site_with.Goals as goal

pub returns : goal.returns
returns c =
    let head = revision_with c.args.file.now c.args.text.now in
    c.in_ok-take_text.ensures ∙ ap (λ t. with_text t head.file (revision_text head)) c.in_ok-site.ensures ∙ site_put (newest_in c.args.heads.now) head
