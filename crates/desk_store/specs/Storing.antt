-- What the statements of storing an entry do, and those that make a database of version 1 one of version 2, each within one
-- transaction. (this project's own)
use Rattle.std.specs.Prelude.{List, ℕ, [], ◌∷◌, Option, codes, option_map}
use Rattle.std.specs.List.{cons_option}
use Rattle.sqlite.specs.Effect.{IsDatabase}
use Rattle.sqlite.specs.Order.{Row}
use Rattle.sqlite.specs.declared.types.Value.TheVariants.{Text as Words}
use Rattle.sqlite.specs.State.{State}
use Rattle.desk_core.specs.declared.entry.Entry.{Entry}
use Rattle.desk_core.specs.declared.entry.Entry.TheVariants.{Revised, Proposed}
use Rattle.desk_store.specs.Create.{HasLaterRoom}
use Rattle.desk_store.specs.Error.{Commit, Statement, Step}
use Rattle.desk_store.specs.History.{HoldsFirst, approval_of, entry_rows, proposed_row, row_of}
use Rattle.desk_store.specs.Open.{Migrates}
use Rattle.desk_schema.specs.Tables.{HasTables}
use Rattle.desk_store.specs.Tables.{IsKeyed, Stores, Writes, delete_proposal, insert_approval, insert_proposal, insert_revision, without_file}

-- the row of an approval is added, if there is one and the tables are there (in a database that can be opened, since without one nothing is done)
abbrev pub AddsApproval : Option Row → State → State → Type 0
AddsApproval row old new = HasTables old.now.schema → IsDatabase old.now → Writes [] (cons_option row []) (λ proposals. proposals) old.now new.now

-- the row of a proposal is added
abbrev pub AddsProposal : Row → State → State → Type 0
AddsProposal row old new = HasTables old.now.schema → Writes [] [] (λ proposals. row ∷ proposals) old.now new.now

-- a file's proposal is taken out, if it has one and no rowid comes twice
abbrev pub TakesProposal : List ℕ → State → State → Type 0
TakesProposal file old new = HasTables old.now.schema → IsKeyed old.now (codes "proposal") → Writes [] [] (without_file file) old.now new.now

-- an entry's rows are put into the tables
abbrev pub WritesEntry : Entry → State → State → Type 0
WritesEntry stored old new = HasTables old.now.schema → IsKeyed old.now (codes "proposal") → Stores (entry_rows stored) old.now new.now

-- the statements that store an entry, in one transaction, in their order
abbrev pub statements_of : Entry → List Statement
statements_of (Revised r) = Step delete_proposal (Words r.file ∷ []) ∷ Step insert_revision (row_of r) ∷ cons_option (option_map (Step insert_approval) (approval_of r)) (Commit ∷ [])
statements_of (Proposed p) = Step delete_proposal (Words p.file ∷ []) ∷ Step insert_proposal (proposed_row p) ∷ Commit ∷ []

-- a database of version 1 becomes one of version 2, with the same history, if there is room for the later tables
abbrev pub MakesSecond : State → State → Type 0
MakesSecond old new = HasLaterRoom old.now.schema → IsKeyed old.now (codes "meta") → (history : List Entry) → HoldsFirst old.now history → Migrates old.now new.now
