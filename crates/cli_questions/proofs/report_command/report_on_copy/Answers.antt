use Rattle.sqlite.specs.Files.{over_files}
use Rattle.cli_questions.proofs.OnCopy.{at_path, no_desk}
use Rattle.cli_questions.proofs.report_command.report_on_copy.Goals as goal

pub returns-in-Ok : goal.returns-in-Ok
returns-in-Ok c = at_path over_files c.in-Ok.desk c.args.db.now c.print_page-printed.result c.in-Ok.ensures.opened c.print_page-printed.ensures

pub returns-in-Err : goal.returns-in-Err
returns-in-Err c = no_desk c.args.db.now c.in-Err.printed c.in-Err.ensures.refused
