-- The limits of time of a connection. A moment is how many milliseconds after the start of the service it is. (this project's own)
use Rattle.std.specs.Prelude.{◌≡◌, ℕ, ◌+◌, ◌&&◌, Bool, true, false, Option, Some, None, nat_le, nat_lt}
use Rattle.cli_serve.specs.declared.limits.Phase.{Phase}
use Rattle.cli_serve.specs.declared.limits.Phase.TheVariants.{Ended, Idle, Message, Reply}

-- so much time has passed since a moment
abbrev pub has_passed : ℕ → ℕ → ℕ → Bool
has_passed time since now = nat_le (since + time) now

-- the limit of time since a moment is over; 0 is no limit
abbrev pub is_over : ℕ → ℕ → ℕ → Bool
is_over limit since now = nat_lt 0 limit && has_passed limit since now

-- since when a connection does what it does: idle since its accept or its last reply, within a message since its first byte, within a
-- reply since that began, or ended
abbrev pub begun : Phase → ℕ
begun (Idle since) = since
begun (Message since) = since
begun (Reply since) = since
begun (Ended since) = since

-- A connection has to end once the limit of its message, of its reply or of its idleness is over; and one whose stream has ended is read
-- on for 2 s.
abbrev pub has_to_end : ℕ → Phase → ℕ → Bool
has_to_end limit (Idle since) now = is_over limit since now
has_to_end limit (Message since) now = is_over limit since now
has_to_end limit (Reply since) now = is_over limit since now
has_to_end limit (Ended since) now = is_over 2000 since now

-- what comes at a moment, and lasts, or never comes
abbrev pub ComesAt : (ℕ → Bool) → Option ℕ → Type 0
ComesAt is_so (Some moment) = (now : ℕ) → is_so now ≡ nat_le moment now
ComesAt is_so None = (now : ℕ) → is_so now ≡ false

-- where room has to be made, what began longest ago makes it; of several, the first
abbrev pub makes_room_before : ℕ → Option ℕ → Bool
makes_room_before since None = true
makes_room_before since (Some first) = nat_lt since first

-- bytes came: with the first of them a message begins
abbrev pub with_bytes : Phase → ℕ → Phase
with_bytes (Idle since) now = Message now
with_bytes (Message since) now = Message since
with_bytes (Reply since) now = Reply since
with_bytes (Ended since) now = Ended since
