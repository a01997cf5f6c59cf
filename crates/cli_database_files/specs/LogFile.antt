-- When the log of a database holds no page. (sqlite.org/fileformat2.html, section 4.1)
use Rattle.std.specs.Prelude.{◌<◌, ◌≤◌, ◌+◌, ℕ}

-- The log is too short for its header, of 32 bytes, and that of a page, of 24. No commit fits into it.
abbrev pub HasNoPage : ℕ → Type 0
HasNoPage len = len < 32 + 24

-- it has both headers
abbrev pub MayHavePage : ℕ → Type 0
MayHavePage len = 32 + 24 ≤ len
