-- What a desk on a copy of a database prints, before it is known what the database was. (this project's own)
use Rattle.std.specs.Prelude.{◌≡◌, ℕ, Bool, List, [], Ok, Result, Err, not}
use Rattle.std.specs.Str.{bytes_eq}
use Rattle.sqlite_trees.specs.declared.store.Store.{Ghosts}
use Rattle.desk_core.specs.declared.head.Head.{Head}
use Rattle.desk_store.specs.Desk.{History, Shown, StandsAt}
use Rattle.cli_output.specs.declared.failure.Failure.{Failure}
use Rattle.cli_output.specs.declared.failure.Failure.TheVariants.{Memory}
use Rattle.cli_output.specs.declared.printed.Printed.{Printed}
use Rattle.cli_questions.specs.ReportCommand.{PrintsPage}

-- the page by each history at which the desk stands; or memory ran out
abbrev pub PrintsOnDesk : {S V : Type 0} → Ghosts S → Shown S V → List ℕ → Result Printed Failure → Type 0
PrintsOnDesk g desk word (Ok printed) = (history : History) → StandsAt g desk history [] → PrintsPage word history printed
PrintsOnDesk g desk word (Err failure) = failure ≡ Memory

-- a newest revision is not of the file of this one
abbrev pub is_apart : Head → Head → Bool
is_apart head other = not (bytes_eq other.file head.file)
