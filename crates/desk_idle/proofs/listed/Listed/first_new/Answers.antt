use Rattle.std.proofs.Common.{◌≡◌, ◌∙◌, ap, find}
use Rattle.desk_exports.specs.declared.entry.Entry.{Entry}
use Rattle.desk_policy.specs.Listings.{written}
use Rattle.desk_idle.proofs.Directories.{is_new}
use Rattle.desk_idle.proofs.listed.Listed.first_new.Goals as goal

pub returns : goal.returns
returns c = λ earlier is.
    let dirs : c.as_slice.result.now ≡ c.args.row.now.entry.dirs = c.as_slice.ensures ∙ ap (λ (entry : Entry). entry.dirs) c.deref.ensures in
    c.first_unknown.ensures (written earlier) is.dirs ∙ ap (find (is_new (written earlier))) dirs
