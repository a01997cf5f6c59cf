-- What the numbers ask for is served, or the first that cannot be parsed is reported.
use Rattle.std.proofs.Common.{Err, refl}
use Rattle.cli_words.specs.Words.{rows_in}
use Rattle.cli_serve.proofs.ServeAnswers.{refused, started}
use Rattle.cli_serve.proofs.serve_command.run_serve.Goals as goal

pub returns-in-Ok-clause-started : goal.returns-in-Ok-clause-started
returns-in-Ok-clause-started c = started (rows_in c.args.words.now) c.in-Ok.asked c.start.result c.in-Ok.ensures c.start.ensures.serves

pub returns-in-Ok-clause-refused : goal.returns-in-Ok-clause-refused
returns-in-Ok-clause-refused c = refused (rows_in c.args.words.now) c.in-Ok.asked c.start.result c.in-Ok.ensures c.start.ensures.refused

pub returns-in-Err-clause-refused : goal.returns-in-Err-clause-refused
returns-in-Err-clause-refused c = record { step = Err c.in-Err.failure; is = c.in-Err.ensures; next = refl }
