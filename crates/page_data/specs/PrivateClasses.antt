-- What the private contracts of classes cite.
use Rattle.std.specs.Prelude.{ℕ, ◌==◌, List, Option, Some, None, Result, Ok, Err, find, fold}
use Rattle.desk_policy.specs.Verdict.{Grant}
use Rattle.desk_policy.specs.declared.verdict.Denial.{Denial}
use Rattle.desk_policy.specs.declared.verdict.Denial.TheVariants.{NoFileSystem, NoLine, NotListed}
use Rattle.desk_policy.specs.declared.row.Row.{Row}
use Rattle.page_data.specs.Class.{class_of_terms, most_of}
use Rattle.page_data.specs.declared.class.Class.{Class}
use Rattle.page_data.specs.declared.class.Class.TheVariants.{Denied}

-- the class of the terms of a line, if there is one
abbrev pub class_if : Option Row → Class
class_if None = Denied
class_if (Some row) = class_of_terms row.entry.terms

-- that of the line with a number
abbrev pub class_of_line : List Row → ℕ → Class
class_of_line rows line = class_if (find (λ row. row.entry.line == line) rows)

-- that of the line that a verdict names
abbrev pub class_named : List Row → Result Grant Denial → Class
class_named rows (Ok grant) = class_of_terms grant.terms
class_named rows (Err NoFileSystem) = Denied
class_named rows (Err (NoLine fs)) = Denied
class_named rows (Err (NotListed fs line)) = class_of_line rows line

-- the greatest of the values of functions at an address
abbrev pub most_among : List (ℕ → Class) → ℕ → Class
most_among each address = fold (λ most class_at. most_of (class_at address) most) Denied each
