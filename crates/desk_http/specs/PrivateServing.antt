-- How the last reply of a connection is written. (this project's own)
use Rattle.std.specs.Prelude.{◌≡◌, ℕ, ◌+◌, ◌<◌, ◌⊎◌, true, List, length, take, Option}
use Rattle.std.specs.Io.KnownBytes.{Appends, Keeps}
use Rattle.desk_http_messages.specs.declared.requests.End.{End}
use Rattle.desk_http_messages.specs.declared.requests.End.TheVariants.{Bad, WriteFault}
use Rattle.desk_http_messages.specs.declared.requests.Served.{Served}
use Rattle.desk_http_messages.specs.declared.requests.StreamFault.{StreamFault}
use Rattle.desk_http_messages.specs.Replies.{fault_reply, print_reply}

-- the reply to a fault was written after so many replies and bytes, or a part of it
abbrev pub Refuses : StreamFault → Option (List ℕ) → Option (List ℕ) → ℕ → ℕ → Served → Type 0
Refuses fault held held' replied written served =
    let text = print_reply true (fault_reply fault) in
    ((served.end ≡ Bad fault) × Appends held held' text
    × (served.replies ≡ replied + 1) × (served.written ≡ written + length text))
    ⊎ ((part : ℕ) × (served.end ≡ WriteFault) × (part < length text) × Appends held held' (take part text)
    × (served.replies ≡ replied) × (served.written ≡ written + part))

-- A stream that ended so was ended: by the reply to its fault, or, if it has none, by writing nothing more.
abbrev pub EndsBy : End → Option (List ℕ) → Option (List ℕ) → ℕ → ℕ → Served → Type 0
EndsBy (Bad fault) held held' replied written served = Refuses fault held held' replied written served
EndsBy end held held' replied written served = (served ≡ record { replies = replied; written = written; end = end }) × Keeps held held'
