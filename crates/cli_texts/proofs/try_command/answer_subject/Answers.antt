-- The request is parsed, and then all is read.
use Rattle.std.proofs.Common.{Bool, Err, List, Ok, Option, refl, subst, ℕ}
use Rattle.std.proofs.lemmas.Result.{err_from_is_err_and}
use Rattle.std.specs.Prelude.{codes}
use Rattle.clap.specs.Words.{first_of}
use Rattle.desk_tables.specs.declared.filesystems.Mount.{Mount}
use Rattle.cli_words.specs.Words.{rows_in}
use Rattle.cli_texts.specs.TryCommand.{AnswersRequest, Asked}
use Rattle.cli_sources.specs.WholeQuestion.{AnswersWhole}
use Rattle.cli_texts.proofs.try_command.answer_subject.Goals as goal

pub returns-in_err-request : goal.returns-in_err-request
returns-in_err-request g c =
    let p = err_from_is_err_and c.from_residual.result c.from_residual.ensures.1 in
    rw (p.1, p.2) (record { step = Err c.in_err-request.field-0.0; is = c.in_err-request.ensures; next = refl })

pub returns : goal.returns
returns g c =
    let rows = rows_in c.args.words.now in
    let asked : Option (List ℕ) → Bool → List Mount → Asked = λ word json table. record { word = word; asking = c.args.asking; json = json; request = c.in_ok-request.request; filesystems = table } in
    record {
      step = Ok c.in_ok-request.request;
      is = c.in_ok-request.ensures;
      next = subst (λ (json : Bool). AnswersWhole (λ table. AnswersRequest (asked (first_of (codes "as") rows) json table)) json rows (g.I.Read.remaining c.args.input.now) c.args.subject.now c.answer_whole.result) c.is_set.ensures
          (subst (λ (word : Option (List ℕ)). AnswersWhole (λ table. AnswersRequest (asked word c.is_set.result table)) c.is_set.result rows (g.I.Read.remaining c.args.input.now) c.args.subject.now c.answer_whole.result) c.given.ensures c.answer_whole.ensures);
    }
