-- The answer of `serve` by its words, and the service that runs after it. (this project's own)
use Rattle.std.specs.Prelude.{◌≡◌, ◌⊎◌, ℕ, ◌++◌, ◌∷◌, List, [], Option, Some, None, Result, Ok, Err, codes}
use Rattle.std.specs.Fmt.{decimal}
use Rattle.clap.specs.Words.{Row, first_of}
use Rattle.cli_output.specs.Failure.{IsUnread}
use Rattle.cli_output.specs.Printed.{Prints}
use Rattle.cli_output.specs.declared.failure.Failure.{Failure}
use Rattle.cli_output.specs.declared.failure.Failure.TheVariants.{Memory, Unbound}
use Rattle.cli_output.specs.declared.printed.Printed.{Printed}
use Rattle.cli_words.specs.Values.{IsBadCount, IsBadPort, count_number, port_number}
use Rattle.cli_words.specs.Words.{After, ByWord}
use Rattle.cli_desk.specs.Desks.{HasNoDesk}
use Rattle.cli_serve.specs.declared.serve_command.Asked.{Asked}
use Rattle.cli_serve.specs.declared.serve_command.Started.{Started}

-- the limit of time that SECONDS writes, in seconds; 5 if it is not given
abbrev pub limit_number : Option (List ℕ) → Option ℕ
limit_number (Some word) = count_number word
limit_number None = Some 5

-- the failure names SECONDS; out of memory says nothing
abbrev pub IsBadLimit : Option (List ℕ) → Failure → Type 0
IsBadLimit (Some word) failure = IsBadCount (codes "--timeout") word failure
IsBadLimit None failure = ⊥

-- the words of N, M and SECONDS ask for this database, this port, this number of connections, and this limit of time
pub record IsAsked (db port connections : List ℕ) (timeout : Option (List ℕ)) (asked : Asked) : Type 0 where
  pub db_is : asked.db.now ≡ db
  pub port_is : port_number port ≡ Some asked.port
  pub connections_are : count_number connections ≡ Some asked.connections
  pub seconds_are : limit_number timeout ≡ Some asked.seconds

-- the failure names the first number, by what N, M and SECONDS are read as, that cannot be parsed
abbrev pub IsBadNumber : List ℕ → List ℕ → Option (List ℕ) → Option ℕ → Option ℕ → Option ℕ → Failure → Type 0
IsBadNumber port connections timeout None read_connections read_seconds failure = IsBadPort port failure
IsBadNumber port connections timeout (Some number) None read_seconds failure = IsBadCount (codes "--connections") connections failure
IsBadNumber port connections timeout (Some number) (Some count) None failure = IsBadLimit timeout failure
IsBadNumber port connections timeout (Some number) (Some count) (Some seconds) failure = ⊥

-- what the words ask, or which number cannot be parsed
abbrev pub ReadsNumbers : List ℕ → List ℕ → List ℕ → Option (List ℕ) → Result Asked Failure → Type 0
ReadsNumbers db port connections timeout (Ok asked) = IsAsked db port connections timeout asked
ReadsNumbers db port connections timeout (Err failure) = IsBadNumber port connections timeout (port_number port) (count_number connections) (limit_number timeout) failure

-- what `serve DB --port N --connections M [--timeout SECONDS]` asks
abbrev pub ReadsAsked : List Row → Result Asked Failure → Type 0
ReadsAsked rows =
    ByWord (codes "DB") rows (λ db. ByWord (codes "port") rows (λ port. ByWord (codes "connections") rows (λ connections.
    ReadsNumbers db port connections (first_of (codes "timeout") rows))))

-- the line that says where a service is
abbrev pub listening_line : ℕ → List ℕ
listening_line port = codes "listening 127.0.0.1:" ++ decimal port ++ 10 ∷ []

-- the failure says that this port cannot be bound; out of memory says nothing
abbrev pub IsUnbound : ℕ → Failure → Type 0
IsUnbound port (Unbound found error) = found ≡ port
IsUnbound port Memory = Unit {0}
IsUnbound port failure = ⊥

-- A service of the database at this path, at this port, does not start: there is no desk, the database cannot be read, or the port
-- cannot be bound. Out of memory says nothing.
abbrev pub RefusesService : List ℕ → ℕ → Result Printed Failure → Type 0
RefusesService path port (Ok printed) = HasNoDesk path (Ok printed)
RefusesService path port (Err failure) = IsUnread (codes "DB") path failure ⊎ IsUnbound port failure

-- a service serves what is asked, and its line is printed before
pub record Serves (asked : Asked) (started : Started) : Type 0 where
  pub prints : Prints 0 (listening_line asked.port) started.printed
  pub connections_are : started.service.connections ≡ asked.connections
  pub seconds_are : started.service.seconds ≡ asked.seconds

-- a service serves what the words ask
abbrev pub StartsServe : List Row → Started → Type 0
StartsServe rows started = (asked : Asked) × ReadsAsked rows (Ok asked) × Serves asked started

-- in the place of a service stands why none starts that the words ask, or which of them cannot be parsed
abbrev pub RefusesServe : List Row → Result Printed Failure → Type 0
RefusesServe rows = After (ReadsAsked rows) (λ asked. RefusesService asked.db.now asked.port)

-- the line of a service that the words ask is printed
abbrev pub PrintsLine : List Row → Result Printed Failure → Type 0
PrintsLine rows (Ok printed) = (asked : Asked) × ReadsAsked rows (Ok asked) × Prints 0 (listening_line asked.port) printed
PrintsLine rows (Err failure) = ⊥

-- the answer of `serve DB --port N --connections M [--timeout SECONDS]`: the line of a service, or why there is none
abbrev pub AnswersServe : List Row → Result Printed Failure → Type 0
AnswersServe rows result = PrintsLine rows result ⊎ RefusesServe rows result
