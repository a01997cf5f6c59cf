use Rattle.std.proofs.Common.{◌∙◌, ap}
use Rattle.std.specs.Option.{is_some}
use Rattle.desk_policy.specs.Listings.{written}
use Rattle.desk_idle.proofs.Directories.{is_new}
use Rattle.desk_idle.proofs.ListedLines.{any_found, brings_by, some_copied}
use Rattle.desk_idle.proofs.listed.Listed.is_new.Goals as goal

pub returns : goal.returns
returns c = λ earlier is.
    let row = c.args.row.now in
    brings_by c.args.self.now earlier row c.is_some-is_new.result c.brings.result is
    (c.is_some-is_new.ensures ∙ some_copied c.first_new.result ∙ ap is_some (c.first_new.ensures earlier is) ∙ any_found (is_new (written earlier)) row.entry.dirs)
    c.brings.ensures
