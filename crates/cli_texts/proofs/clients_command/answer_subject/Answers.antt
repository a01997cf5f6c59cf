-- The path is parsed, and then all is read.
use Rattle.std.proofs.Common.{Bool, codes, Err, Ok, refl, subst}
use Rattle.std.proofs.lemmas.Result.{err_from_is_err_and}
use Rattle.cli_words.specs.Words.{is_set, rows_in}
use Rattle.cli_texts.specs.ClientsCommand.{AnswersPath}
use Rattle.cli_sources.specs.WholeQuestion.{AnswersWhole}
use Rattle.cli_texts.proofs.clients_command.answer_subject.Goals as goal

pub returns-in_err-path : goal.returns-in_err-path
returns-in_err-path g c =
    let p = err_from_is_err_and c.from_residual.result c.from_residual.ensures.1 in
    rw (p.1, p.2) (record { step = Err c.in_err-path.field-0.0; is = c.in_err-path.ensures; next = refl })

pub returns : goal.returns
returns g c =
    let rows = rows_in c.args.words.now in
    record {
      step = Ok c.in_ok-path.path;
      is = c.in_ok-path.ensures;
      next = subst (λ (json : Bool). AnswersWhole (AnswersPath (is_set (codes "mountd") rows) json c.in_ok-path.path) json rows (g.I.Read.remaining c.args.input.now) c.args.subject.now c.answer_whole.result) c.is_set-2.ensures
          (subst (λ (mountd : Bool). AnswersWhole (AnswersPath mountd c.is_set-2.result c.in_ok-path.path) c.is_set-2.result rows (g.I.Read.remaining c.args.input.now) c.args.subject.now c.answer_whole.result) c.is_set.ensures c.answer_whole.ensures);
    }
