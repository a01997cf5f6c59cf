-- The answer of `report`, by its words. (this project's own)
use Rattle.std.specs.Prelude.{◌≡◌, ◌⊎◌, ℕ, List, Result, Ok, Err, codes}
use Rattle.clap.specs.Words.{Row}
use Rattle.sqlite.specs.Effect.{Database}
use Rattle.std.specs.String.{string_bytes}
use Rattle.desk_core.specs.Head.{StandOnce}
use Rattle.desk_core.specs.History.{standing_of}
use Rattle.desk_core.specs.Standing.{PendOnce, standing_in}
use Rattle.desk_core.specs.declared.head.Head.{Head}
use Rattle.desk_core.specs.declared.proposal.Proposal.{Proposal}
use Rattle.desk_store.specs.Desk.{History}
use Rattle.desk_store.specs.Open.{IsOurs, IsProject}
use Rattle.desk_service.specs.declared.refused.Refused.TheVariants as refused
use Rattle.page_site.specs.Page.{IsPageOf}
use Rattle.cli_output.specs.Failure.{IsUnread}
use Rattle.cli_output.specs.declared.failure.Failure.{Failure}
use Rattle.cli_output.specs.declared.printed.Printed.{Printed}
use Rattle.cli_desk.specs.RefusalLines.{Says}
use Rattle.cli_words.specs.Words.{ByWord}

-- A page is that of the newest revisions and the proposals by a history, for this word. They are listed in some order, and each file at
-- most once in either list.
pub record IsPageBy (history : History) (word page : List ℕ) : Type 0 where
  pub heads : List Head
  pub proposals : List Proposal
  pub stand : standing_in heads proposals ≡ standing_of history
  pub stand_once : StandOnce heads
  pub pend_once : PendOnce proposals
  pub is : IsPageOf heads proposals word page

-- what is printed by a history
abbrev pub PrintsPage : List ℕ → History → Printed → Type 0
PrintsPage word history printed = IsPageBy history word (string_bytes printed.text) × (printed.status ≡ 0)

-- what is printed of a database: that it is not one of this project, or the page by each history that it holds
abbrev pub PrintsReport : List ℕ → Database → Printed → Type 0
PrintsReport word db printed = (Says refused.Schema printed × (IsOurs db → ⊥)) ⊎ (IsOurs db × ((history : History) → IsProject db history → PrintsPage word history printed))

-- The answer on the database at a path: by what it holds; or that SQLite does not open it or refused a statement, or that it cannot be
-- read. Out of memory says nothing.
abbrev pub AnswersOn : List ℕ → Result Printed Failure → Type 0
AnswersOn path (Ok printed) = Says refused.Store printed ⊎ ((db : Database) × PrintsReport path db printed)
AnswersOn path (Err failure) = IsUnread (codes "DB") path failure

-- `report DB`
abbrev pub AnswersReport : List Row → Result Printed Failure → Type 0
AnswersReport rows = ByWord (codes "DB") rows AnswersOn
