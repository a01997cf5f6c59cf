-- The entries are those that the text writes, and lines that are read from a text write directories.
use Rattle.std.proofs.Common.{ap, subst, sym}
use Rattle.std.specs.Prelude.{codes}
use Rattle.desk_exports.specs.declared.profile.Profile.TheVariants.{Two}
use Rattle.desk_policy.specs.Parsing.{in_file, then_read, whole_policy}
use Rattle.desk_policy.specs.SiteFault.{line_fault}
use Rattle.desk_idle.specs.Laws.{WriteDirectories}
use Rattle.desk_findings.proofs.check_text.gather_odd.Goals as goal

pub push_inconsistencies-requires-clause-lines : goal.push_inconsistencies-requires-clause-lines
push_inconsistencies-requires-clause-lines c = λ fs.
    let read = ap (λ answer. then_read (in_file (line_fault (codes "exports")) answer) (whole_policy c.args.site_tables.now c.args.filesystems)) c.requires.read in
    subst (λ policy. WriteDirectories policy fs) (sym c.in_ok-policy.ensures)
    (c.read_lines_write_directories.ensures.whole Two c.args.site_tables.now c.args.filesystems c.args.sources.exports.text.now _ read fs)
