-- What `serve` comes to is what its words ask for, for `serve_command`.
use Rattle.std.specs.Prelude.{IfErr, IfOk}
use Rattle.std.proofs.Common.{ℕ, List, inl, Result, Ok, Err}
use Rattle.clap.specs.Words.{Row}
use Rattle.cli_output.specs.declared.failure.Failure.{Failure}
use Rattle.cli_output.specs.declared.printed.Printed.{Printed}
use Rattle.cli_desk.specs.Desks.{HasNoDesk}
use Rattle.cli_serve.specs.PrivateServe.{Starts}
use Rattle.cli_serve.specs.ServeCommand.{ReadsAsked, RefusesServe, RefusesService, Serves, StartsServe}
use Rattle.cli_serve.specs.declared.serve_command.Asked.{Asked}
use Rattle.cli_serve.specs.declared.serve_command.Started.{Started}

-- there is no desk
no_desk : (path : List ℕ) (port : ℕ) (answer : Result Printed Failure) → HasNoDesk path answer → RefusesService path port answer
no_desk path port (Ok printed) none = none
no_desk path port (Err failure) unread = inl unread

-- and nothing starts
pub starts_nothing : (asked : Asked) (answer : Result Printed Failure) → HasNoDesk asked.db.now answer → Starts asked (Err answer)
starts_nothing asked answer none = record { serves = tt; refused = no_desk asked.db.now asked.port answer none }

-- a service that is as it is asked is as the words ask
pub started : (rows : List Row) (asked : Asked) (result : Result Started (Result Printed Failure)) → ReadsAsked rows (Ok asked) → IfOk result (Serves asked) → IfOk result (StartsServe rows)
started rows asked (Ok found) reads serves = (asked, reads, serves)
started rows asked (Err answer) reads serves = tt

-- and so is why none starts
pub refused : (rows : List Row) (asked : Asked) (result : Result Started (Result Printed Failure)) → ReadsAsked rows (Ok asked) → IfErr result (RefusesService asked.db.now asked.port) → IfErr result (RefusesServe rows)
refused rows asked (Ok found) reads refuses = tt
refused rows asked (Err answer) reads refuses = record { step = Ok asked; is = reads; next = refuses }
