-- The site that is foreseen is that by which the edit is judged.
use Rattle.std.proofs.Common.{subst}
use Rattle.desk_policy.specs.Site.{SiteTexts}
use Rattle.desk_core.specs.History.{newest_of}
use Rattle.desk_service.specs.Sites.{IsSiteOf}
use Rattle.desk_service.proofs.laws.edits_put_the_site_that_was_foreseen.Goals as goal

pub returns : goal.returns
returns c = λ history e site told. subst (λ (texts : SiteTexts). IsSiteOf texts site) (c.foreseen_sites_are_judged.ensures (newest_of history) e) told.is
