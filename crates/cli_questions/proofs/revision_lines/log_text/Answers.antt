-- The lines so far are written.
use Rattle.std.proofs.Common.{[]}
use Rattle.std.specs.String.{string_bytes}
use Rattle.cli_questions.specs.RevisionLines.{revision_line}
use Rattle.cli_questions.proofs.Writing.{writes}
use Rattle.cli_questions.proofs.revision_lines.log_text.Goals as goal

pub loop-revision-preserved : goal.loop-revision-preserved
loop-revision-preserved c =
    writes c.args.revisions.now c.loop-revision.revision-index c.revision-item.result c.loop-revision-test.true c.revision-item.is
    (revision_line c.args.name.now) [] (string_bytes c.loop-revision.text) (string_bytes c.push_revision.new.text) c.loop-revision.invariant
    c.in_ok-push_revision.ensures
