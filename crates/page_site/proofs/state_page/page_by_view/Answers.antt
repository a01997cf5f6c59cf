use Rattle.page_site.proofs.Sites.{is_root}
use Rattle.page_site.proofs.state_page.page_by_view.Goals as goal

pub page_by_root-requires-clause-root : goal.page_by_root-requires-clause-root
page_by_root-requires-clause-root c = is_root c.in-Ok.root c.in-Ok.ensures
