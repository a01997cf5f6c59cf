-- What the private contracts of the lines that break an expectation cite.
use Rattle.std.specs.Prelude.{List, [], ◌∷◌, ◌++◌, Option, None, Some, if◌then◌else◌}
use Rattle.std.specs.List.{list_any}
use Rattle.cli_expectations.specs.NamedLines.{same_line}
use Rattle.cli_expectations.specs.declared.named_lines.NamedLine.{NamedLine}

-- these lines and one, unless it is among them
abbrev pub with_line : List NamedLine → NamedLine → List NamedLine
with_line lines line = if list_any (λ other. same_line other line) lines then lines else lines ++ line ∷ []

-- the same, if there is one
abbrev pub with_once : List NamedLine → Option NamedLine → List NamedLine
with_once lines None = lines
with_once lines (Some line) = with_line lines line
