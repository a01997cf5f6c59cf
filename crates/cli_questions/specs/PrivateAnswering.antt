-- What a desk on a copy of a database answers, before it is known what the database was. (this project's own)
use Rattle.std.specs.Prelude.{◌≡◌, ◌⊎◌, ℕ, Bool, List, [], Option, Result, Ok, Err}
use Rattle.sqlite_trees.specs.declared.store.Store.{Ghosts}
use Rattle.desk_policy.specs.Policy.{Content}
use Rattle.desk_core.specs.Foresight.{IsForesightOf}
use Rattle.desk_store.specs.Desk.{History, Shown, StandsAt}
use Rattle.desk_service.specs.Questions.{Answer, ForeseenIs, IsLookedUp, Question}
use Rattle.desk_service.specs.Sites.{WholeSite}
use Rattle.desk_service.specs.declared.questions.Looked.{Looked}
use Rattle.desk_service.specs.declared.refused.Refused.TheVariants as refused
use Rattle.cli_output.specs.declared.failure.Failure.{Failure}
use Rattle.cli_output.specs.declared.failure.Failure.TheVariants.{Memory}
use Rattle.cli_output.specs.declared.printed.Printed.{Printed}
use Rattle.cli_verdict.specs.TryText.{Answer as Told, MountQuestion}
use Rattle.cli_desk.specs.RefusalLines.{Says}
use Rattle.cli_questions.specs.Questions.{Asked, Printer, PrintsAnswer, PrintsByHistory, PrintsLines, PrintsObject, PrintsSite, PrintsVerdict, PrintsWhy}

-- what is foreseen is of the policy in force
abbrev pub IsSound : Answer → Type 0
IsSound (ForeseenIs foreseen) = (file : List ℕ) × IsForesightOf (λ content. content) foreseen.before file foreseen.foresight
IsSound answer = Unit {0}

-- an answer is printed, or memory ran out
abbrev pub TriesToPrint : Asked → Answer → Result Printed Failure → Type 0
TriesToPrint asked answer (Ok printed) = PrintsAnswer asked answer printed
TriesToPrint asked answer (Err failure) = failure ≡ Memory

-- the same in lines
abbrev pub TriesToPrintLines : Asked → Answer → Result Printed Failure → Type 0
TriesToPrintLines asked answer (Ok printed) = PrintsLines asked answer printed
TriesToPrintLines asked answer (Err failure) = failure ≡ Memory

-- the same as an object
abbrev pub TriesToPrintObject : Asked → Answer → Result Printed Failure → Type 0
TriesToPrintObject asked answer (Ok printed) = PrintsObject asked answer printed
TriesToPrintObject asked answer (Err failure) = failure ≡ Memory

-- a verdict is printed, or memory ran out
abbrev pub TriesToPrintVerdict : Told → Result Printed Failure → Type 0
TriesToPrintVerdict tried (Ok printed) = PrintsVerdict tried printed
TriesToPrintVerdict tried (Err failure) = failure ≡ Memory

-- reasons are printed, or memory ran out
abbrev pub TriesToPrintWhy : Option MountQuestion → Content → List ℕ → Result Printed Failure → Type 0
TriesToPrintWhy question content reasons (Ok printed) = PrintsWhy question content reasons printed
TriesToPrintWhy question content reasons (Err failure) = failure ≡ Memory

-- a site is printed, or memory ran out
abbrev pub TriesToPrintSite : Bool → WholeSite → Printer → Result Printed Failure → Type 0
TriesToPrintSite json site printer (Ok printed) = PrintsSite json site printer printed
TriesToPrintSite json site printer (Err failure) = failure ≡ Memory

-- a desk stands at a history, and nothing is pending
abbrev pub HasHistory : {S V : Type 0} → Ghosts S → Shown S V → Type 0
HasHistory g desk = (history : History) × StandsAt g desk history []

-- the answer of a desk: by each history at which it stands; or that a statement was refused, or memory ran out
abbrev pub AnswersOnDesk : {S V : Type 0} → Ghosts S → Shown S V → Asked → Result Printed Failure → Type 0
AnswersOnDesk g desk asked (Ok printed) = Says refused.Store printed ⊎ ((history : History) → StandsAt g desk history [] → PrintsByHistory history asked printed)
AnswersOnDesk g desk asked (Err failure) = failure ≡ Memory

-- a desk stands at a history by which the statements of a question found this, and nothing is pending
abbrev pub FindsByHistory : {S V : Type 0} → Ghosts S → Shown S V → Question → Looked → Type 0
FindsByHistory g desk question looked = (history : History) × StandsAt g desk history [] × IsLookedUp history question looked

-- the answer of a desk by what the statements of the question have found; or memory ran out
abbrev pub AnswersWith : {S V : Type 0} → Ghosts S → Shown S V → Asked → Looked → Result Printed Failure → Type 0
AnswersWith g desk asked looked (Ok printed) = (history : History) → StandsAt g desk history [] → IsLookedUp history asked.question looked → PrintsByHistory history asked printed
AnswersWith g desk asked looked (Err failure) = failure ≡ Memory
