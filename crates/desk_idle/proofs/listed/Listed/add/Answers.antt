use Rattle.std.proofs.Common.{◌≡◌, ◌∙◌, ap}
use Rattle.std.specs.List.{list_any}
use Rattle.desk_exports.specs.declared.entry.Entry.{Entry}
use Rattle.desk_policy.specs.Listings.{written}
use Rattle.desk_idle.proofs.Directories.{is_new}
use Rattle.desk_idle.proofs.ListedLines.{brings_by}
use Rattle.desk_idle.proofs.listed.Listed.add.Goals as goal

pub returns-clause-brings : goal.returns-clause-brings
returns-clause-brings c = λ earlier is.
    let row = c.args.row.now in
    let dirs : c.as_slice.result.now ≡ row.entry.dirs = c.as_slice.ensures ∙ ap (λ (entry : Entry). entry.dirs) c.deref.ensures in
    brings_by c.args.self.now earlier row c.in_ok-is_new.is_new c.brings-brought.result is
    (c.in_ok-is_new.ensures.new (written earlier) is.dirs ∙ ap (list_any (is_new (written earlier))) dirs) c.brings-brought.ensures
