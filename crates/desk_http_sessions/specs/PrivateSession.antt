-- How a session keeps what waits to be sent. (this project's own)
use Rattle.std.specs.Prelude.{◌≡◌, ◌⊎◌, ℕ, ◌≤◌, List, [], ◌∷◌, ◌++◌, Option, Some, None, drop, length}
use Rattle.desk_http_messages.specs.declared.requests.End.{End}
use Rattle.desk_http_messages.specs.declared.requests.End.TheVariants.{Bad, ReadFault}
use Rattle.desk_http_messages.specs.Replies.{last_texts}
use Rattle.desk_http.specs.declared.stepping.ReplyText.{ReplyText}
use Rattle.desk_http.specs.declared.stepping.Step.{Step}
use Rattle.desk_http.specs.declared.stepping.Step.TheVariants as step
use Rattle.desk_http.specs.Connection.{Place, ReadMoves}
use Rattle.desk_http.specs.Stepping.{text_bytes}

-- the bytes of a reply behind the first ones, if there is one
abbrev pub unsent_of : Option ReplyText → ℕ → List ℕ
unsent_of None sent = []
unsent_of (Some text) sent = drop sent (text_bytes text)

-- no more was sent than the reply
abbrev pub IsWithin : Option ReplyText → ℕ → Type 0
IsWithin None sent = Unit {0}
IsWithin (Some text) sent = sent ≤ length (text_bytes text)

-- the texts with which a step ends
abbrev pub step_texts : Step → List (List ℕ)
step_texts (step.Reply text ends) = text_bytes text ∷ []
step_texts (step.Fault fault) = last_texts (Bad fault)
step_texts (step.Waits pending) = []

-- A connection was given these bytes, and how that ended its stream, if it did. If the stream goes on, they came whole. If it has ended,
-- they are the end, which is none; or the read failed or would have been one too many, and no more than their front came.
abbrev pub TakesIn : Place → List ℕ → Option End → Place → Type 0
TakesIn p bytes None q = ReadMoves p bytes None q
TakesIn p bytes (Some end) q =
    (found : List ℕ) × (lost : List ℕ) × (bytes ≡ found ++ lost) × ReadMoves p found (Some end) q
    × (((bytes ≡ []) × (lost ≡ [])) ⊎ (end ≡ ReadFault))
