use Rattle.std.proofs.Common.{subst}
use Rattle.desk_core.specs.Head.{newest_in}
use Rattle.desk_core.specs.Site.{site_in}
use Rattle.page_data.specs.Laws.{IsSoundIfRead}
use Rattle.page_site.proofs.Sites.{is_root, sound}
use Rattle.page_site.proofs.page.report_page.Goals as goal

pub page_of_sound_site-requires-clause-given : goal.page_of_sound_site-requires-clause-given
page_of_sound_site-requires-clause-given g c =
    let law = subst IsSoundIfRead c.policy.ensures c.sites_are_sound.ensures in
    record {
      kept = c.requires.kept;
      readable = c.requires.readable;
      is = c.requires.source;
      sound = sound (site_in (newest_in c.args.site.heads.now)) _ law c.requires.source.policy_is c.requires.source.consistent;
    }

pub page_of_sound_site-requires-clause-root : goal.page_of_sound_site-requires-clause-root
page_of_sound_site-requires-clause-root g c = is_root c.in-Ok.root c.in-Ok.ensures
