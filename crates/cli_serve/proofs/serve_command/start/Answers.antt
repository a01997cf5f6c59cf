-- A database without a desk is not served; one with a desk is, if its port is bound.
use Rattle.cli_serve.proofs.ServeAnswers.{starts_nothing}
use Rattle.cli_serve.proofs.serve_command.start.Goals as goal

pub returns-in-Err : goal.returns-in-Err
returns-in-Err c = starts_nothing c.args.asked c.in-Err.answer c.in-Err.ensures.refused
