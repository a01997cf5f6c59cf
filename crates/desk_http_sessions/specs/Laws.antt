-- What the exchanges of a session come to. (this project's own)
use Rattle.std.specs.Prelude.{ℕ, List, ◌++◌, Option}
use Rattle.desk_http.specs.Connection.{Event}
use Rattle.desk_http_sessions.specs.Session.{Exchanges, Kept}

-- what was exchanged, and then more, is exchanged through the events of both
abbrev pub ExchangesFollow : (W : Type 0) → (W → Option (List ℕ)) → (W → Option (List ℕ)) → Type 0
ExchangesFollow W left held =
    (old mid new : Kept W) (events more : List Event)
    → Exchanges left held old events mid → Exchanges left held mid more new → Exchanges left held old (events ++ more) new
