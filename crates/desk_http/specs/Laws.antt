-- What the definitions of this crate come to. (this project's own)
use Rattle.std.specs.Prelude.{◌≡◌, ◌≢◌, ℕ, Bool, true, false, List, [], ◌∷◌, ◌++◌, Contains, None, Option, Some, codes, if◌then◌else◌, is_none, take}
use Rattle.std.specs.Fmt.{decimal}
use Rattle.std.specs.List.{cons_option, flat_map}
use Rattle.std.specs.Str.{bytes_eq}
use Rattle.sqlite_trees.specs.declared.store.Store.{Ghosts}
use Rattle.desk_core.specs.Edit.{Already, Answer, Edit, Pending, Proposed, Refused, Stored}
use Rattle.desk_core.specs.History.{Exchange, Run, history_after, history_through, standing_of}
use Rattle.desk_core.specs.Judging.{first_case}
use Rattle.desk_store.specs.Desk.{HasGoodDisk, History, Shown, StandsAt}
use Rattle.desk_store.specs.Laws.{pending_through}
use Rattle.desk_http_messages.specs.Asked.{asked_by}
use Rattle.desk_http_messages.specs.Stream.{Message}
use Rattle.desk_http_messages.specs.declared.requests.End.{End}
use Rattle.desk_http_messages.specs.declared.requests.End.TheVariants.{ReadFault}
use Rattle.desk_http.specs.declared.connection.State.TheVariants.{Ended}
use Rattle.desk_http.specs.Answering.{Serves, edit_asked}
use Rattle.desk_http.specs.Connection.{AtDesk, DeskGoes, Event, Goes, Interleaves, IsServed, IsStreamOf, Moves, Place, answered, fresh, happened, own, replies, written}
use Rattle.desk_http.specs.Serving.{IsReplyTo}

-- a desk after some messages and then others is one after all of them
abbrev pub RunsFollow : (S V : Type 0) → Ghosts S → Type 0
RunsFollow S V g =
    (old mid new : Shown S V) (messages others : List Message) (texts more : List (List ℕ))
    → Serves (HasGoodDisk g) (StandsAt g) old messages texts mid
    → Serves (HasGoodDisk g) (StandsAt g) mid others more new
    → Serves (HasGoodDisk g) (StandsAt g) old (messages ++ others) (texts ++ more) new

-- the text of a reply has this status
abbrev pub has_status : ℕ → List ℕ → Bool
has_status status text = bytes_eq (take 13 text) (codes "HTTP/1.1 " ++ decimal status ++ codes " ")

-- the edit that a message asks for, if this text, its reply, has this status
abbrev pub edit_replied : ℕ → Message → List ℕ → List Edit
edit_replied status m text = if has_status status text then cons_option (edit_asked (asked_by m)) [] else []

-- the edits that messages ask for and whose replies have this status, in order
abbrev pub edits_replied : ℕ → List Message → List (List ℕ) → List Edit
edits_replied status [] texts = []
edits_replied status (m ∷ messages) [] = []
edits_replied status (m ∷ messages) (text ∷ texts) = edit_replied status m text ++ edits_replied status messages texts

-- the answer says that the edit is stored or proposed, now or before
abbrev pub is_done : Option Answer → Bool
is_done None = false
is_done (Some (Stored rev)) = true
is_done (Some (Proposed rev)) = true
is_done (Some (Already rev)) = true
is_done (Some (Pending rev)) = true
is_done (Some (Refused why)) = false

-- the edit of an exchange, if it is done, and if it has no answer
abbrev pub edit_done : Exchange → List Edit
edit_done x = if is_done x.answer then x.edit ∷ [] else []

abbrev pub edit_unanswered : Exchange → List Edit
edit_unanswered x = if is_none x.answer then x.edit ∷ [] else []

-- the edits that are done, and those without an answer, in order
abbrev pub edits_done : List Exchange → List Edit
edits_done made = flat_map edit_done made

abbrev pub edits_unanswered : List Exchange → List Edit
edits_unanswered made = flat_map edit_unanswered made

-- no edit without an answer is one that would be refused for who asks, or for its file, its base or its length, or is a repeat
abbrev pub AreUnrefused : History → List Exchange → Type 0
AreUnrefused old [] = Unit {0}
AreUnrefused old (x ∷ made) = (x.answer ≡ None → first_case (standing_of old) x.edit ≡ None) × AreUnrefused (history_after old x) made

-- The exchanges that a desk made for messages, and what was replied. They are a run of its histories. The edits that were replied 200
-- are exactly those that are stored or proposed, now or before, in order. An edit without an answer, which a crash may bring to light,
-- was replied 503, and it is one that could have been stored or proposed, if its site is consistent.
pub record IsRunOf (history : History) (messages : List Message) (texts : List (List ℕ)) (made : List Exchange) : Type 0 where
  pub run : Run history made (history_through history made)
  pub done : edits_replied 200 messages texts ≡ edits_done made
  pub unanswered : (e : Edit) → Contains (edits_unanswered made) e → Contains (edits_replied 503 messages texts) e
  pub unrefused : AreUnrefused history made

-- The replies to the messages of a stream are a run of the desk, on a good disk, wherever it stood: it then stands at the run's last
-- history, and a crash may bring to light what the run leaves pending.
abbrev pub RepliesAreARun : (S V : Type 0) → Ghosts S → Type 0
RepliesAreARun S V g =
    (old new : Shown S V) (messages : List Message) (texts : List (List ℕ)) (history pending : History)
    → Serves (HasGoodDisk g) (StandsAt g) old messages texts new → HasGoodDisk g new → StandsAt g old history pending
    → (made : List Exchange) × IsRunOf history messages texts made × StandsAt g new (history_through history made) (pending_through history pending made)

-- In whatever pieces a stream comes, in at most 1,000,000 reads with that which tells its end, and each within the room that is left: a
-- connection that is stepped through it writes what `serve` writes, the replies to the stream.
abbrev pub SteppingServes : (S V : Type 0) → Ghosts S → Type 0
SteppingServes S V g =
    (old new : Shown S V) (events : List Event) (p : Place) (end : End) (stream : List ℕ)
    → Goes fresh events p → DeskGoes (HasGoodDisk g) (StandsAt g) old events new
    → p.state ≡ Ended end → end ≢ ReadFault → IsStreamOf events stream
    → IsReplyTo (HasGoodDisk g) (StandsAt g) old stream (written events) end new

-- Of several connections, the desk is one after a run over the messages of all, in the order in which they were answered; and each came
-- to what it comes to alone: what is written to it are the replies to its own messages, in their order.
abbrev pub InterleavingsServe : (S V : Type 0) → Ghosts S → Type 0
InterleavingsServe S V g =
    (old new : Shown S V) (events : List (ℕ × Event)) (places : ℕ → Place)
    → Interleaves (HasGoodDisk g) (StandsAt g) old events places new
    → Serves (HasGoodDisk g) (StandsAt g) old (answered (happened events)) (replies (happened events)) new
    × ((i : ℕ) → IsServed (own i events) (places i))

-- connections beside one another go on by an event of one of them, while the others stay at their places
abbrev pub InterleavingsGoOn : (S V : Type 0) → Ghosts S → Type 0
InterleavingsGoOn S V g =
    (old mid new : Shown S V) (events : List (ℕ × Event)) (places others : ℕ → Place) (i : ℕ) (e : Event)
    → Interleaves (HasGoodDisk g) (StandsAt g) old events places mid
    → AtDesk (HasGoodDisk g) (StandsAt g) mid e new → Moves (places i) e (others i) → ((j : ℕ) → j ≢ i → others j ≡ places j)
    → Interleaves (HasGoodDisk g) (StandsAt g) old (events ++ (i, e) ∷ []) others new
