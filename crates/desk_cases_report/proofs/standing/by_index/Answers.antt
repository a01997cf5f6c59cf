use Rattle.std.proofs.Common.{refl, subst}
use Rattle.desk_policy.specs.Site.{texts_of}
use Rattle.page_data.specs.Laws.{IsSoundIfRead}
use Rattle.desk_cases_report.proofs.standing.by_index.Goals as goal

pub of_index-asked-requires : goal.of_index-asked-requires
of_index-asked-requires c = subst IsSoundIfRead c.policy.ensures c.sites_are_sound.ensures (texts_of c.args.texts.now) _ c.in-Ok.ensures.0 refl refl c.in-Ok.ensures.1
