-- The lines so far are written.
use Rattle.std.specs.String.{string_bytes}
use Rattle.cli_edits.specs.InitCommand.{warning_line}
use Rattle.cli_edits.proofs.Writing.{writes}
use Rattle.cli_edits.proofs.init_command.push_warnings.Goals as goal

pub loop-warning-preserved : goal.loop-warning-preserved
loop-warning-preserved c =
    writes c.args.warnings.now c.loop-warning.warning-index c.warning-item.result c.loop-warning-test.true c.warning-item.is
    warning_line (string_bytes c.args.text.now) (string_bytes c.loop-warning.text) (string_bytes c.push_warning.new.text) c.loop-warning.invariant c.in_ok-push_warning.ensures
