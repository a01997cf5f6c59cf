-- CRED is parsed with the tables that were read, and then it is decided.
use Rattle.std.proofs.Common.{Err, Ok, inl, refl}
use Rattle.std.proofs.lemmas.Result.{err_from_is_err_and}
use Rattle.std.specs.Option.{option_map}
use Rattle.cli_texts.specs.TryCommand.{PrintsVerdict, question_in}
use Rattle.cli_texts.proofs.TablesRead.{fault_told, own_read}
use Rattle.cli_texts.proofs.try_command.answer_with.Goals as goal

pub returns-in_err-own : goal.returns-in_err-own
returns-in_err-own c =
    let p = err_from_is_err_and c.from_residual.result c.from_residual.ensures.1 in
    rw (p.1, p.2)
    (record {
      step = Err c.in_err-own.field-0.0;
      is = own_read (option_map (λ word. word.now) c.args.asked.word) c.args.sources c.args.tables.now (Err c.in_err-own.field-0.0) c.requires.known c.in_err-own.ensures;
      next = refl;
    })

pub returns-in-Ok : goal.returns-in-Ok
returns-in-Ok c = record {
  step = Ok c.in_ok-own.own;
  is = own_read (option_map (λ word. word.now) c.args.asked.word) c.args.sources c.args.tables.now (Ok c.in_ok-own.own) c.requires.known c.in_ok-own.ensures;
  next = inl c.in-Ok.ensures;
}

pub returns-in-Err : goal.returns-in-Err
returns-in-Err c =
    let table = c.args.asked.filesystems.now in
    let Gives = PrintsVerdict c.args.sources table (question_in c.args.asked.request.now c.in_ok-own.own c.args.asked.asking c.args.asked.json) in
    record {
      step = Ok c.in_ok-own.own;
      is = own_read (option_map (λ word. word.now) c.args.asked.word) c.args.sources c.args.tables.now (Ok c.in_ok-own.own) c.requires.known c.in_ok-own.ensures;
      next = fault_told Gives c.args.asked.json Gives c.args.sources table c.in-Err.error c.answer_error.result c.in-Err.ensures c.answer_error.ensures;
    }
