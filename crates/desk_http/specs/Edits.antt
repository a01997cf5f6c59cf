-- The replies to edits. (this project's own)
use Rattle.std.specs.Prelude.{◌≡◌, ◌⊎◌, [], ◌∷◌, List, None, Some, true, false}
use Rattle.desk_core.specs.Edit.{Already, Answer, Edit, Pending, Proposed, Refused, Stored}
use Rattle.desk_core.specs.History.{Exchange, standing_of}
use Rattle.desk_core.specs.Judging.{Answers, answer_of, entry_of, first_case}
use Rattle.desk_store.specs.Desk.{History}
use Rattle.desk_service.specs.declared.refused.Refused.TheVariants as refused
use Rattle.desk_http_messages.specs.Replies.{Reply, memory_reply, reply_with}
use Rattle.desk_http_bodies.specs.Edits.{done_data, proposed_data}
use Rattle.desk_http.specs.Replies.{refused_reply, store_reply}

-- the reply to an edit, by its answer
abbrev pub answer_reply : Answer → Reply
answer_reply (Stored rev) = reply_with 200 (done_data false rev)
answer_reply (Proposed rev) = reply_with 200 (proposed_data false rev)
answer_reply (Already rev) = reply_with 200 (done_data true rev)
answer_reply (Pending rev) = reply_with 200 (proposed_data true rev)
answer_reply (Refused why) = refused_reply (refused.Edit why)

-- An edit is answered by how files stand by the history before it, and its answer is replied. The desk made this exchange.
abbrev pub EditReply : History → Edit → Reply → List Exchange → Type 0
EditReply old e reply made =
    (answer : Answer) × Answers (standing_of old) e answer × (reply ≡ answer_reply answer) × (made ≡ record { edit = e; answer = Some answer } ∷ [])

-- The reply to an edit that the desk was asked for and that has no answer. No case holds of it; and the reply is that there is
-- no memory, or that the store refused a statement, and then the edit could be stored or proposed.
abbrev pub UnansweredReply : History → Edit → Reply → Type 0
UnansweredReply old e reply =
    (first_case (standing_of old) e ≡ None)
    × ((reply ≡ memory_reply) ⊎ ((reply ≡ store_reply) × Answers (standing_of old) e (answer_of (entry_of (standing_of old) e))))
