-- When bytes that wait are to be looked at anew, and what reading on comes to. (this project's own)
use Rattle.std.specs.Prelude.{◌≡◌, ℕ, ◌<◌, ◌≤◌, Bool, true, false, List, length, Option}
use Rattle.std.specs.Io.KnownBytes.{IsAtEnd}
use Rattle.desk_http_messages.specs.declared.framing.Pending.{Pending}
use Rattle.desk_http_messages.specs.declared.framing.Pending.TheVariants as pending
use Rattle.desk_http_messages.specs.declared.reading.Outcome.{Outcome}
use Rattle.desk_http_messages.specs.declared.reading.Outcome.TheVariants.{More, AtEnd, Failed, Bound}
use Rattle.desk_http_messages.specs.Front.{IsWaiting}

-- Bytes of which the first `seen` waited so are to be looked at anew: a message or a head may have gone on; the message is whole; or
-- there are so many that there is no head.
abbrev pub IsDue : Pending → ℕ → List ℕ → Type 0
IsDue pending.Message seen bytes = seen < length bytes
IsDue pending.Head seen bytes = seen < length bytes
IsDue pending.NoHead seen bytes = 8192 ≤ length bytes
IsDue (pending.Body whole) seen bytes = whole ≤ length bytes

-- After so many reads, of which so many were allowed: the bytes that wait now, of which the first `seen` waited so, are to be looked at
-- anew; or they wait as before, and the reader is at its end, has failed, or may not be asked again.
abbrev pub ReadOn : Pending → Outcome → ℕ → List ℕ → ℕ → ℕ → Bool → Option (List ℕ) → Type 0
ReadOn pending More seen bytes reads most failed left = (0 < reads) × (failed ≡ false) × IsDue pending seen bytes
ReadOn pending AtEnd seen bytes reads most failed left = IsWaiting bytes pending × IsAtEnd left × (failed ≡ false)
ReadOn pending Failed seen bytes reads most failed left = IsWaiting bytes pending × (failed ≡ true)
ReadOn pending Bound seen bytes reads most failed left = IsWaiting bytes pending × (reads ≡ most) × (failed ≡ false)
