-- The reply to a request, and what a desk does at several. (this project's own)
use Rattle.std.specs.Prelude.{◌≡◌, ℕ, ◌⊎◌, Bool, true, false, List, [], ◌∷◌, ◌++◌, Option, Some, None, if◌then◌else◌, is_none}
use Rattle.desk_core.specs.Edit.{Edit}
use Rattle.desk_core.specs.History.{Exchange, history_through}
use Rattle.desk_store.specs.Desk.{History}
use Rattle.desk_store.specs.Laws.{pending_through}
use Rattle.desk_service.specs.Questions.{takes_statements}
use Rattle.desk_http_messages.specs.Asked.{Asked, asked_by}
use Rattle.desk_http_messages.specs.Head.{ends_stream}
use Rattle.desk_http_messages.specs.Replies.{Reply, memory_reply, print_reply}
use Rattle.desk_http_messages.specs.Stream.{Message}
use Rattle.desk_http_requests.specs.Calls.{Asks, Puts, Query, edit_in, first_fault, query_asked}
use Rattle.desk_http_requests.specs.declared.faults.RequestFault.{RequestFault}
use Rattle.desk_http.specs.Replies.{request_fault_reply, store_reply}
use Rattle.desk_http.specs.Questions.{QuestionReply}
use Rattle.desk_http.specs.Edits.{EditReply, UnansweredReply}

-- the reply to an edit that a request may ask for
abbrev pub EditReplyIf : History → Option Edit → Reply → List Exchange → Type 0
EditReplyIf old None reply made = ⊥
EditReplyIf old (Some e) reply made = EditReply old e reply made

-- the ordinary reply to what a request asks
abbrev pub QueryReply : Asked → Option Query → History → Reply → List Exchange → Type 0
QueryReply asked None old reply made = ⊥
QueryReply asked (Some (Asks question own)) old reply made = QuestionReply old question own reply × (made ≡ [])
QueryReply asked (Some (Puts file base)) old reply made = EditReplyIf old (edit_in asked file base) reply made

-- the ordinary reply: to the first fault of the request, or to what it asks
abbrev pub OrdinaryReply : Asked → Option RequestFault → History → Reply → List Exchange → Type 0
OrdinaryReply asked (Some fault) old reply made = (reply ≡ request_fault_reply fault) × (made ≡ [])
OrdinaryReply asked None old reply made = QueryReply asked (query_asked asked) old reply made

-- the query of a request is a question that takes statements
abbrev pub asks_statements : Option Query → Bool
asks_statements None = false
asks_statements (Some (Asks question own)) = takes_statements question
asks_statements (Some (Puts file base)) = false

-- the edit that a query of a request asks for
abbrev pub edit_by : Asked → Option Query → Option Edit
edit_by asked None = None
edit_by asked (Some (Asks question own)) = None
edit_by asked (Some (Puts file base)) = edit_in asked file base

-- the edit that a request asks for; none if it has a fault
abbrev pub edit_asked : Asked → Option Edit
edit_asked asked = if is_none (first_fault asked) then edit_by asked (query_asked asked) else None

-- What may stand in place of the ordinary reply: that there is no memory, and then no edit was made, or it was refused; that the store
-- refused a statement, to a question that takes some; or one of these two, to an edit that the desk was asked for and that has no
-- answer.
abbrev pub MayStand : Asked → History → Reply → List Exchange → Type 0
MayStand asked old reply made =
    ((reply ≡ memory_reply) × (made ≡ []))
    ⊎ (((first_fault asked ≡ None) × (asks_statements (query_asked asked) ≡ true) × (reply ≡ store_reply) × (made ≡ []))
    ⊎ ((e : Edit) × (edit_asked asked ≡ Some e) × UnansweredReply old e reply × (made ≡ record { edit = e; answer = None } ∷ [])))

-- One reply by the history at which a desk stands, the ordinary one or one in its place; and the exchange that the desk made for it, if
-- it was asked for an edit. Nothing else changes the desk.
abbrev pub Answered : Asked → History → Reply → List Exchange → Type 0
Answered asked old reply made = OrdinaryReply asked (first_fault asked) old reply made ⊎ MayStand asked old reply made

-- these texts are the replies to these messages, one after another, from this history on, and these are the exchanges that the desk
-- made for them
abbrev pub Replies : History → List Message → List (List ℕ) → List Exchange → Type 0
Replies old [] [] made = made ≡ []
Replies old (m ∷ messages) (text ∷ texts) made =
    (own later : List Exchange) × (reply : Reply) × Answered (asked_by m) old reply own × (text ≡ print_reply (ends_stream m.head) reply)
    × (made ≡ own ++ later) × Replies (history_through old own) messages texts later
Replies old [] (text ∷ texts) made = ⊥
Replies old (m ∷ messages) [] made = ⊥

-- there is one text for each message, and it is that of a reply
abbrev pub ArePrinted : List Message → List (List ℕ) → Type 0
ArePrinted [] [] = Unit {0}
ArePrinted (m ∷ messages) (text ∷ texts) = ((reply : Reply) × (text ≡ print_reply (ends_stream m.head) reply)) × ArePrinted messages texts
ArePrinted [] (text ∷ texts) = ⊥
ArePrinted (m ∷ messages) [] = ⊥

-- A desk after several messages. Whatever its disk does, each message has one text, that of a reply, and no fault of the disk is
-- forgotten. On a good disk, wherever the desk stood, the texts are the replies by that history; it stands at the history after the
-- exchanges that it made for them; and a crash may bring to light only what these leave pending. What is said of a desk is what
-- desk_store says: that its disk is good, and that it stands at a history with entries of which a crash may bring one to light.
pub record Serves {S : Type 0} (good : S → Type 0) (stands : S → History → History → Type 0)
    (old : S) (messages : List Message) (texts : List (List ℕ)) (new : S)
    : Type 0 where
  pub printed : ArePrinted messages texts
  pub disk : good new → good old
  pub step : good new → (history pending : History) → stands old history pending
      → (made : List Exchange) × Replies history messages texts made × stands new (history_through history made) (pending_through history pending made)
