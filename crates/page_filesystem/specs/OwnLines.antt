-- The lines of one file system among those of a site. (this project's own)
use Rattle.std.specs.Prelude.{ℕ, ◌≤◌, ◌==◌, List, filter}
use Rattle.std.specs.List.{AllPairs}
use Rattle.page_findings.specs.Lines.{LineValue}

-- lines stand in the order of their file systems
abbrev pub AreByFileSystem : List LineValue → Type 0
AreByFileSystem lines = AllPairs (λ line later. line.fs ≤ later.fs) lines

-- The lines of a file system, in their order.
abbrev pub lines_in : List LineValue → ℕ → List LineValue
lines_in lines fs = filter (λ line. line.fs == fs) lines
