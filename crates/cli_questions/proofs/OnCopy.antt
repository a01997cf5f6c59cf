-- What a desk on a copy prints is printed of the database at a path.
use Rattle.std.proofs.Common.{ℕ, List, codes, inl, inr, Result, Ok, Err, subst, sym}
use Rattle.sqlite_trees.specs.declared.store.Store.{Ghosts}
use Rattle.desk_store.specs.Desk.{Shown}
use Rattle.cli_output.specs.Failure.{IsUnread}
use Rattle.cli_output.specs.declared.failure.Failure.{Failure}
use Rattle.cli_output.specs.declared.printed.Printed.{Printed}
use Rattle.cli_desk.specs.Desks.{HasNoCopiedDesk, IsCopied}
use Rattle.cli_questions.specs.PrivateReport.{PrintsOnDesk}
use Rattle.cli_questions.specs.ReportCommand.{AnswersOn}

pub at_path : {S V : Type 0} (g : Ghosts S) (desk : Shown S V) (path : List ℕ) (result : Result Printed Failure) → IsCopied g desk → PrintsOnDesk g desk path result → AnswersOn path result
at_path g desk path (Ok printed) copied by = inr (copied.0, inr (copied.1.0, λ history project. by history (copied.1.1 history project)))
at_path g desk path (Err failure) copied is = subst (IsUnread (codes "DB") path) (sym is) tt

-- there is no desk on a copy
pub no_desk : (path : List ℕ) (result : Result Printed Failure) → HasNoCopiedDesk path result → AnswersOn path result
no_desk path (Ok printed) (inl store) = inl store
no_desk path (Ok printed) (inr schema) = inr (schema.1.0, inl (schema.0, schema.1.1))
no_desk path (Err failure) unread = unread
