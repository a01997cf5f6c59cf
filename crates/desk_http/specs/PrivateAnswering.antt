-- What a desk does at one call that has a reply. (this project's own)
use Rattle.std.specs.Prelude.{◌≡◌, ◌⊎◌, ℕ, Bool, true, List, [], ◌∷◌, None, Option}
use Rattle.desk_tables.specs.declared.credentials.Cred.{Cred}
use Rattle.desk_core.specs.Edit.{Already, Edit, Pending, Proposed, Stored}
use Rattle.desk_core.specs.History.{Exchange, history_through}
use Rattle.desk_store.specs.Desk.{History}
use Rattle.desk_store.specs.Laws.{pending_through}
use Rattle.desk_service.specs.Questions.{IsLookedUp, Question, takes_statements}
use Rattle.desk_service.specs.declared.questions.Looked.{Looked}
use Rattle.desk_service.specs.declared.edits.Replies.{Replies}
use Rattle.desk_http_messages.specs.Asked.{Asked, asked_by}
use Rattle.desk_http_messages.specs.Head.{ends_stream}
use Rattle.desk_http_messages.specs.Replies.{Reply, memory_reply, print_reply}
use Rattle.desk_http_messages.specs.Stream.{Message}
use Rattle.desk_http.specs.Replies.{store_reply}
use Rattle.desk_http.specs.Questions.{QuestionReply}
use Rattle.desk_http.specs.Edits.{EditReply, UnansweredReply, answer_reply}
use Rattle.desk_http.specs.Answering.{Answered}

-- A desk after a call of which this is the reply: no fault of its disk is forgotten, and on a good disk, wherever it stood, the
-- reply is an answer by that history, it stands at the history after the exchange that it made, if it made one, and what may come to
-- light is what that leaves pending.
pub record Gives {S : Type 0} (good : S → Type 0) (stands : S → History → History → Type 0)
    (answered : History → Reply → List Exchange → Type 0) (old : S) (reply : Reply) (new : S)
    : Type 0 where
  pub disk : good new → good old
  pub step : good new → (history pending : History) → stands old history pending
      → (made : List Exchange) × answered history reply made × stands new (history_through history made) (pending_through history pending made)

-- a desk after a call that wrote this text, which is its reply; ends says that the stream ends after it
abbrev pub GivesText : {S : Type 0} → (S → Type 0) → (S → History → History → Type 0) → (History → Reply → List Exchange → Type 0) → Bool → S → List ℕ → S → Type 0
GivesText good stands answered ends old text new = (reply : Reply) × Gives good stands answered old reply new × (text ≡ print_reply ends reply)

-- A question is replied by the history, or that there is no memory, or, if it takes statements, that the store refused one; and the desk
-- made no exchange.
abbrev pub QuestionAnswered : Question → Option Cred → History → Reply → List Exchange → Type 0
QuestionAnswered question own old reply made =
    (QuestionReply old question own reply ⊎ ((reply ≡ memory_reply) ⊎ ((takes_statements question ≡ true) × (reply ≡ store_reply)))) × (made ≡ [])

-- An edit is replied by its answer; or that there is no memory, and it was refused or not made; or it has no answer.
abbrev pub EditAnswered : Edit → History → Reply → List Exchange → Type 0
EditAnswered e old reply made =
    EditReply old e reply made
    ⊎ (((reply ≡ memory_reply) × (made ≡ [])) ⊎ (UnansweredReply old e reply × (made ≡ record { edit = e; answer = None } ∷ [])))

-- the texts of the four replies that an edit may have which is not refused; ends says that the stream ends after it
pub record AreReplies {T : Type 0} (items : T → List ℕ) (ends : Bool) (rev : ℕ) (replies : Replies T) : Type 0 where
  pub accepted : items replies.accepted ≡ print_reply ends (answer_reply (Stored rev))
  pub already : items replies.already ≡ print_reply ends (answer_reply (Already rev))
  pub proposed : items replies.proposed ≡ print_reply ends (answer_reply (Proposed rev))
  pub already_proposed : items replies.already_proposed ≡ print_reply ends (answer_reply (Pending rev))

-- the text of a reply to a question, which is right by each history at which the desk stands, if what was looked up for it is
abbrev pub TellsLooked : {S : Type 0} → (S → History → History → Type 0) → S → Question → Option Cred → Looked → Bool → List ℕ → Type 0
TellsLooked stands desk question own looked ends text =
    (reply : Reply) × ((history pending : History) → stands desk history pending → IsLookedUp history question looked → QuestionReply history question own reply)
    × (text ≡ print_reply ends reply)

-- a desk after one request, which wrote the text of its reply; ends says that the stream ends after it
abbrev pub AnswersAsked : {S : Type 0} → (S → Type 0) → (S → History → History → Type 0) → S → Asked → Bool → List ℕ → S → Type 0
AnswersAsked good stands old asked ends text new = GivesText good stands (Answered asked) ends old text new

-- a desk after one message, which wrote the text of its reply
abbrev pub AnswersMessage : {S : Type 0} → (S → Type 0) → (S → History → History → Type 0) → S → Message → List ℕ → S → Type 0
AnswersMessage good stands old m text new = AnswersAsked good stands old (asked_by m) (ends_stream m.head) text new
