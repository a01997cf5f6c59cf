-- What one connection has done so far.
use Rattle.std.proofs.Common.{◌≡◌, ℕ, List, ◌++◌, length, All, Option}
use Rattle.std.specs.List.{flat_map}
use Rattle.std.specs.Io.KnownBytes.{Consumes, Appends}
use Rattle.desk_http_messages.specs.Stream.{Message, IsMessage, GoesOn, print_message}
use Rattle.desk_store.specs.Desk.{History}
use Rattle.desk_http_messages.specs.Replies.{joined}
use Rattle.desk_http.specs.Answering.{Serves}

-- the messages that were answered, and their replies
pub record Progress {S : Type 0} (good : S → Type 0) (stands : S → History → History → Type 0)
    (old new : S) (left left' held held' : Option (List ℕ)) (waiting : List ℕ) (replied written : ℕ)
    : Type 0 where
  pub messages : List Message
  pub texts : List (List ℕ)
  pub read : Consumes left left' (flat_map print_message messages ++ waiting)
  pub sent : Appends held held' (joined texts)
  pub each : All IsMessage messages
  pub goes_on : GoesOn messages
  pub run : Serves good stands old messages texts new
  pub replied_is : replied ≡ length texts
  pub written_is : written ≡ length (joined texts)
