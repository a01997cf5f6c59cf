-- The lines of the exports that break an expectation. (this project's own)
use Rattle.std.specs.Prelude.{ℕ, ◌==◌, ◌&&◌, not, Bool, List, [], ◌∷◌, Option, None, Some, Result, Ok, Err, filter}
use Rattle.std.specs.List.{filter_map}
use Rattle.desk_policy.specs.Verdict.{Grant}
use Rattle.desk_policy.specs.declared.verdict.Denial.{Denial}
use Rattle.desk_policy.specs.declared.verdict.Denial.TheVariants.{NoFileSystem, NoLine, NotListed}
use Rattle.desk_expect.specs.ReportText.{BrokenValue}
use Rattle.cli_expectations.specs.BreachesJson.{BreachValue, breaches_of}
use Rattle.cli_expectations.specs.declared.named_lines.NamedLine.{NamedLine}

-- the line that a verdict names: the one that grants, or the first of those that do not list the directory; where no line matches, none
abbrev pub line_named : Result Grant Denial → Option NamedLine
line_named (Ok grant) = Some (record { fs = grant.fs; line = grant.line })
line_named (Err NoFileSystem) = None
line_named (Err (NoLine fs)) = None
line_named (Err (NotListed fs line)) = Some (record { fs = fs; line = line })

-- two lines of exports are one
abbrev pub same_line : NamedLine → NamedLine → Bool
same_line a b = a.fs.0 == b.fs.0 && a.line == b.line

-- each line once, at its first place
abbrev pub each_once : List NamedLine → List NamedLine
each_once [] = []
each_once (line ∷ more) = line ∷ filter (λ other. not (same_line other line)) (each_once more)

-- the lines that the verdicts of ranges name, each once
abbrev pub lines_once : List BreachValue → List NamedLine
lines_once breaches = each_once (filter_map (λ breach. line_named breach.range.value.verdict) breaches)

-- the lines that break an expectation, each once, in the order in which the report comes to them
abbrev pub breaking_lines : BrokenValue → List NamedLine
breaking_lines broken = lines_once (breaches_of broken)
