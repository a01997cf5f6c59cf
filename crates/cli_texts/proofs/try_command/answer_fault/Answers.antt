-- CRED is parsed, and then the fault is told.
use Rattle.std.proofs.Common.{Err, Ok, refl}
use Rattle.cli_texts.specs.TryCommand.{PrintsVerdict, question_in}
use Rattle.cli_texts.proofs.TablesRead.{fault_told, table_fault}
use Rattle.cli_texts.proofs.try_command.answer_fault.Goals as goal

pub returns-in-Ok : goal.returns-in-Ok
returns-in-Ok c =
    let table = c.args.asked.filesystems.now in
    let Gives = PrintsVerdict c.args.sources table (question_in c.args.asked.request.now c.in-Ok.field-0 c.args.asked.asking c.args.asked.json) in
    record {
      step = Ok c.in-Ok.field-0;
      is = c.in-Ok.ensures;
      next = fault_told Gives c.args.asked.json Gives c.args.sources table c.args.error c.answer_error.result
          (table_fault Gives c.args.sources table c.args.error c.requires.fault) c.answer_error.ensures;
    }

pub returns-in-Err : goal.returns-in-Err
returns-in-Err c = record { step = Err c.in-Err.failure; is = c.in-Err.ensures; next = refl }
