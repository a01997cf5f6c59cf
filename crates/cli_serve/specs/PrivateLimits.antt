-- Of two moments, the earlier. (this project's own)
use Rattle.std.specs.Prelude.{ℕ, Option, Some, None, min}

-- one that never comes is later than any
abbrev pub earlier : Option ℕ → Option ℕ → Option ℕ
earlier (Some one) (Some other) = Some (min one other)
earlier (Some one) None = Some one
earlier None other = other
