-- Whom a line is about, as it is kept. (this project's own)
use Rattle.std.specs.Prelude.{◌≡◌, ℕ, ◌<◌, ◌^◌, ◌&&◌, not, Bool, false}
use Rattle.desk_expect.specs.Spans.{SpanEnds, is_held}

-- the addresses that are named, but for others
pub record AudienceValue : Type 0 where
  pub named : SpanEnds
  pub but : SpanEnds

-- the line is about an address
abbrev pub contains : AudienceValue → ℕ → Bool
contains audience address = is_held audience.named address && not (is_held audience.but address)

-- the line is about no address
abbrev pub IsNobody : AudienceValue → Type 0
IsNobody audience = (address : ℕ) → address < 2 ^ 32 → contains audience address ≡ false
