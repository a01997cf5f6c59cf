-- By which line mountd(8) grants what is denied here, and how it is said. (this project's own)
use Rattle.std.specs.Prelude.{ℕ, ◌++◌, List, [], ◌∷◌, Option, None, Some, Result, Ok, Err, codes}
use Rattle.desk_origins.specs.Origins.{line_name}
use Rattle.desk_origins.specs.declared.origins.Origin.{Origin}
use Rattle.desk_policy.specs.Verdict.{Grant}
use Rattle.desk_policy.specs.declared.row.Row.{Row}
use Rattle.desk_policy.specs.declared.verdict.Denial.{Denial}

-- the line by which a verdict grants, if it does
abbrev pub granting_line : Result Grant Denial → Option ℕ
granting_line (Err denial) = None
granting_line (Ok grant) = Some grant.line

-- the line by which the server grants what is denied here, by the verdicts of this desk and of the server
abbrev pub wider_line : Result Grant Denial → Result Grant Denial → Option ℕ
wider_line (Ok grant) server = None
wider_line (Err denial) server = granting_line server

-- the number of the first line, if there is one
abbrev pub first_number : List Row → Option ℕ
first_number [] = None
first_number (row ∷ rows) = Some row.entry.line

-- by which line mountd grants this, if it does
abbrev pub wider_note : List Origin → Option ℕ → List ℕ
wider_note origins None = []
wider_note origins (Some line) = codes "exportdesk: mountd(8) grants this by line " ++ line_name origins line ++ codes ", which is not selected here: --mountd decides by its rule\n"
