-- What the calls of a wire did. (this project's own)
use Rattle.std.specs.Prelude.{◌≡◌, ℕ, ◌<◌, List, Option, Some, None, Result, Ok, Err, length, take}
use Rattle.std.specs.Io.KnownBytes.{Appends, Consumes, IsAtEnd, Keeps}
use Rattle.desk_http_messages.specs.declared.transport.Failed.{Failed}

-- the first bytes of this buffer came, none into one with room only at the end; or nothing did
abbrev pub Receives : Option (List ℕ) → Option (List ℕ) → Result (Option ℕ) Failed → List ℕ → Type 0
Receives left left' (Ok (Some n)) bytes = Consumes left left' (take n bytes) × (n ≡ 0 → 0 < length bytes → IsAtEnd left')
Receives left left' (Ok None) bytes = Keeps left left'
Receives left left' (Err e) bytes = Keeps left left'

-- the first of these bytes were sent, or none were
abbrev pub Sends : Option (List ℕ) → Option (List ℕ) → Result (Option ℕ) Failed → List ℕ → Type 0
Sends held held' (Ok (Some n)) bytes = Appends held held' (take n bytes)
Sends held held' (Ok None) bytes = Keeps held held'
Sends held held' (Err e) bytes = Keeps held held'
