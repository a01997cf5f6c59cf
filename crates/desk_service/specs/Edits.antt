-- What making an edit does and answers, with the replies that it is handed. (this project's own)
use Rattle.std.specs.Prelude.{◌≡◌, Result, Ok, Err, if◌then◌else◌}
use Rattle.sqlite_trees.specs.declared.store.Store.{Ghosts}
use Rattle.sqlite.specs.Held.{state}
use Rattle.desk_core.specs.Edit.{Edit}
use Rattle.desk_store.specs.Desk.{IsEdited, Shown}
use Rattle.desk_store.specs.declared.desk.Done.{Done}
use Rattle.desk_store.specs.declared.error.DeskError.{DeskError}
use Rattle.desk_service.specs.declared.edits.Replies.{Replies}

-- the reply to an edit that is not refused: one of the four that were made before
abbrev pub reply_in : {T : Type 0} → Replies T → Done → T
reply_in replies done =
    if done.proposed then if done.already then replies.already_proposed else replies.proposed
    else if done.already then replies.already else replies.accepted

-- the reply to an edit by what a desk answers: one of the four, or why the edit is refused
abbrev pub reply_to : {T E : Type 0} → Replies T → Result Done E → Result T E
reply_to replies (Ok done) = Ok (reply_in replies done)
reply_to replies (Err failed) = Err failed

-- What making an edit of a desk did: the desk was edited, and the result is the reply to its answer. An edit that is stored or
-- proposed, or was, always has its reply.
abbrev pub PutsBy : {S V T : Type 0} → Ghosts S → Shown S V → Shown S V → Edit → Replies T → Result T DeskError → Type 0
PutsBy g old new e replies result =
    (answer : Result Done DeskError) × IsEdited (state g old.conn) (state g new.conn) old.state new.state e answer × (result ≡ reply_to replies answer)
