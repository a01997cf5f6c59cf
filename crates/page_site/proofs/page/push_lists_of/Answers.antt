use Rattle.std.proofs.Common.{OnOk, subst}
use Rattle.std.specs.String.{string_bytes}
use Rattle.desk_core.specs.Standing.{standing_in}
use Rattle.page_site.specs.Page.{IsBack}
use Rattle.page_site.specs.Pieces.{Gains}
use Rattle.page_site.proofs.page.push_lists_of.Goals as goal

pub returns : goal.returns
returns g c =
    let site = c.args.site.now in
    subst
    (λ content.
    OnOk c.push_back.result
    (Gains (IsBack content site.tables.now (standing_in site.heads.now site.proposals.now) c.args.database.now) (string_bytes c.args.page.now)
    (string_bytes c.push_back.new.page)))
    c.policy.ensures c.push_back.ensures
