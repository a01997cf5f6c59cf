-- The file is the only one of its list.
use Rattle.std.proofs.Common.{codes}
use Rattle.cli_sources.proofs.ExportsTexts.{one_added}
use Rattle.cli_sources.proofs.exports_files.add_zfs.Goals as goal

pub returns-in-Some : goal.returns-in-Some
returns-in-Some g c =
    rw c.in-Some.is
    (one_added (codes "--zfs") c.in-Some.path.now (g.I.Read.remaining c.args.input.now) (g.I.Read.remaining c.add_file.new.input) c.args.whole.now c.add_file.new.whole c.add_file.result
    c.add_file.ensures.added c.add_file.ensures.left)
