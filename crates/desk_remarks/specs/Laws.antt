-- What lines that decide nothing do, of whatever file systems. (this project's own)
use Rattle.std.specs.Prelude.{◌≡◌, ℕ, ◌<◌, ◌+◌, ◌^◌, Bool, true, not, List, [], ◌∷◌, filter}
use Rattle.desk_policy.specs.Policy.{Content}
use Rattle.desk_policy.specs.Verdict.{verdict_of}
use Rattle.desk_policy.specs.declared.row.Row.{Row}
use Rattle.desk_idle.specs.Idle.{DecidesNothing}
use Rattle.desk_idle.specs.Laws.{WriteDirectories}

-- the lines of file systems, of which the first has this number, with some lines made comments: each by its file system and its
-- number
abbrev pub left_from : (ℕ → ℕ → Bool) → ℕ → List (List Row) → List (List Row)
left_from leaves fs [] = []
left_from leaves fs (rows ∷ files) = filter (λ row. not (leaves fs row.entry.line)) rows ∷ left_from leaves (fs + 1) files

-- the policy with these lines made comments
abbrev pub without_lines : Content → (ℕ → ℕ → Bool) → Content
without_lines content leaves = record { table = content.table; rows = left_from leaves 0 content.rows; warnings = content.warnings; origins = content.origins }

-- With any lines made comments that decide nothing, of one file system or of several, every verdict stays, with its line and its
-- terms.
abbrev pub LinesLeftOutChangeNothing : Type 0
LinesLeftOutChangeNothing =
    (content : Content) (leaves : ℕ → ℕ → Bool) → ((fs : ℕ) → WriteDirectories content fs) → ((fs line : ℕ) → leaves fs line ≡ true → DecidesNothing content fs line)
    → (address : ℕ) (path : List (List ℕ)) → address < 2 ^ 32 → verdict_of (without_lines content leaves) address path ≡ verdict_of content address path
