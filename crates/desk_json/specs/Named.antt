-- Answers that name the file of a line, if several texts were read as one. (this project's own)
use Rattle.std.specs.Prelude.{ℕ, List, [], ◌∷◌, Option, None, Some, Result, Ok, Err, codes, map}
use Rattle.serde_json.specs.Data.{Data, object, put as put_member, string}
use Rattle.desk_text.specs.Path.{path_text}
use Rattle.desk_tables.specs.declared.credentials.Cred.{Cred}
use Rattle.desk_origins.specs.Origins.{origin_of, own_line}
use Rattle.desk_origins.specs.declared.origins.Origin.{Origin}
use Rattle.desk_policy.specs.Policy.{Content}
use Rattle.desk_policy.specs.Verdict.{Grant}
use Rattle.desk_policy.specs.declared.verdict.Denial.{Denial}
use Rattle.desk_policy.specs.declared.verdict.Denial.TheVariants.{NoFileSystem, NoLine, NotListed}
use Rattle.desk_who.specs.Runs.{Run}
use Rattle.desk_http_bodies.specs.Json.{count, entries, list}
use Rattle.desk_http_bodies.specs.Ranges.{range_data}
use Rattle.desk_http_bodies.specs.Verdicts.{verdict_data}

-- the line that a verdict names, if it names one
abbrev pub line_of : Result Grant Denial → Option ℕ
line_of (Ok grant) = Some grant.line
line_of (Err NoFileSystem) = None
line_of (Err (NoLine fs)) = None
line_of (Err (NotListed fs line)) = Some line

-- an object with the file that a line is of, as it was given, and the number that the line has there
abbrev pub with_own_line : Origin → ℕ → Data → Data
with_own_line origin line (object members) = object (put_member (codes "file") (string origin.path) (put_member (codes "line") (count (own_line origin line)) members))
with_own_line origin line other = other

abbrev pub with_origin : Option Origin → ℕ → Data → Data
with_origin None line told = told
with_origin (Some origin) line told = with_own_line origin line told

-- an object that names this line, with the line's file, if several texts were read as one
abbrev pub with_file : List Origin → Option ℕ → Data → Data
with_file origins None told = told
with_file origins (Some line) told = with_origin (origin_of origins line) line told

-- the answer to a mount request, for a client with this credential of its own, if it told one
abbrev pub named_verdict : Content → Option Cred → Result Grant Denial → Data
named_verdict content own verdict = with_file content.origins (line_of verdict) (verdict_data content own verdict)

-- a range with its verdict
abbrev pub named_range : Content → Run (Result Grant Denial) → Data
named_range content range = with_file content.origins (line_of range.value) (range_data content range)

-- who may mount a path: the path in its printed form, and the ranges
abbrev pub named_who : Content → List (List ℕ) → List (Run (Result Grant Denial)) → Data
named_who content path ranges = entries ((codes "dir", string (path_text path)) ∷ (codes "ranges", list (map (named_range content) ranges)) ∷ [])
