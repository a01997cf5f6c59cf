-- The site that is foreseen is that by which the edit is judged.
use Rattle.std.proofs.Common.{subst}
use Rattle.desk_policy.specs.Site.{SiteTexts}
use Rattle.desk_core.specs.History.{newest_of}
use Rattle.desk_core.specs.Site.{IsInForce}
use Rattle.desk_service.specs.Foreseeing.{content_after}
use Rattle.desk_service.proofs.laws.edits_put_what_was_foreseen.Goals as goal

pub returns : goal.returns
returns c = λ history e f told. subst (λ (site : SiteTexts). IsInForce site (content_after f)) (c.foreseen_sites_are_judged.ensures (newest_of history) e) told.after
