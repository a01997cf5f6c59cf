use Rattle.std.proofs.Common.{◌≡◌, ◌∙◌, ap}
use Rattle.desk_policy.specs.Site.{texts_of}
use Rattle.desk_store.specs.Create.{first_revisions, revisions_with}
use Rattle.desk_store.proofs.FirstState.{heads_kept, if_made, if_refused}
use Rattle.desk_store.proofs.first_revisions.state_of_short_texts.Goals as goal

pub state_of_heads-requires : goal.state_of_heads-requires
state_of_heads-requires g c = heads_kept (texts_of c.args.site.now) c.in-Ok.heads.items c.args.mounts.now c.in-Ok.ensures.made c.requires.listed c.requires.short c.requires.exports

pub returns-clause-made : goal.returns-clause-made
returns-clause-made g c =
    let made : c.in-Ok.heads.items ≡ first_revisions (texts_of c.args.site.now) = c.in-Ok.ensures.made ∙ ap (revisions_with (texts_of c.args.site.now)) c.requires.listed in
    if_made (texts_of c.args.site.now) c.in-Ok.heads.items made c.tables_are_in_order.ensures c.mount_points_read_back.ensures c.requires.short c.requires.exports c.in-Ok.ensures.utf8 c.state_of_heads.result
    c.state_of_heads.ensures.made c.state_of_heads.ensures.consistent

pub returns-clause-refused : goal.returns-clause-refused
returns-clause-refused g c =
    let made : c.in-Ok.heads.items ≡ first_revisions (texts_of c.args.site.now) = c.in-Ok.ensures.made ∙ ap (revisions_with (texts_of c.args.site.now)) c.requires.listed in
    if_refused (texts_of c.args.site.now) c.in-Ok.heads.items made c.requires.short c.requires.exports c.state_of_heads.result c.state_of_heads.ensures.errors
