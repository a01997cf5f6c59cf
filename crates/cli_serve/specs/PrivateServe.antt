-- What `serve` comes to once its words are parsed. (this project's own)
use Rattle.std.specs.Prelude.{IfErr, IfOk, Result}
use Rattle.cli_output.specs.declared.failure.Failure.{Failure}
use Rattle.cli_output.specs.declared.printed.Printed.{Printed}
use Rattle.cli_serve.specs.ServeCommand.{RefusesService, Serves}
use Rattle.cli_serve.specs.declared.serve_command.Asked.{Asked}
use Rattle.cli_serve.specs.declared.serve_command.Started.{Started}

-- a service that is asked so starts, or it is reported why not
pub record Starts (asked : Asked) (result : Result Started (Result Printed Failure)) : Type 0 where
  pub serves : IfOk result (Serves asked)
  pub refused : IfErr result (RefusesService asked.db.now asked.port)
