-- Which of several texts, read one behind another, a line is of, and how it is named. (this project's own)
use Rattle.std.specs.Prelude.{ℕ, ◌-◌, nat_lt, ◌++◌, List, Option, Some, None, codes, find, reverse}
use Rattle.std.specs.Fmt.{decimal}
use Rattle.std.specs.Option.{option_map_or}
use Rattle.desk_shown.specs.ShownText.{shown_text}
use Rattle.desk_origins.specs.declared.origins.Origin.{Origin}

-- the text of this path, before which so many lines stand
abbrev pub origin : List ℕ → ℕ → Origin
origin path before = record { path = path; shown = shown_text path; before = before }

-- the text that a line of this number is of: the last that has fewer lines before it; none, if one text alone is read
abbrev pub origin_of : List Origin → ℕ → Option Origin
origin_of origins line = find (λ (origin : Origin). nat_lt origin.before line) (reverse origins)

-- the number of a line in its own text
abbrev pub own_line : Origin → ℕ → ℕ
own_line origin line = line - origin.before

-- the path of the text that a line is of, as it was given, and its number there: of one text that is read alone this path, and this number
abbrev pub own_path : List Origin → List ℕ → ℕ → List ℕ
own_path origins path line = option_map_or (λ (origin : Origin). origin.path) (origin_of origins line) path

abbrev pub own_number : List Origin → ℕ → ℕ
own_number origins line = option_map_or (λ (origin : Origin). own_line origin line) (origin_of origins line) line

-- a line by its text
abbrev pub named : Option Origin → ℕ → List ℕ
named None line = decimal line
named (Some origin) line = decimal (own_line origin line) ++ codes " of " ++ origin.shown

-- a line as it is printed: by its number, or, of several texts, by its own number and its text
abbrev pub line_name : List Origin → ℕ → List ℕ
line_name origins line = named (origin_of origins line) line
