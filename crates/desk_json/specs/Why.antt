-- A verdict with why it is so, as `--why` prints it as JSON. (this project's own)
use Rattle.std.specs.Prelude.{ℕ, ◌==◌, List, [], ◌∷◌, Option, Result, codes, length, map, if◌then◌else◌}
use Rattle.std.specs.List.{slice_split}
use Rattle.serde_json.specs.Data.{Data, object, put as put_member, string}
use Rattle.desk_tables.specs.declared.credentials.Cred.{Cred}
use Rattle.desk_policy.specs.Policy.{Content}
use Rattle.desk_policy.specs.Verdict.{Grant}
use Rattle.desk_policy.specs.declared.verdict.Denial.{Denial}
use Rattle.desk_http_bodies.specs.Json.{list}
use Rattle.desk_json.specs.Named.{named_verdict}

-- parts without the last one, if that is empty
abbrev pub without_empty_end : List (List ℕ) → List (List ℕ)
without_empty_end [] = []
without_empty_end (part ∷ []) = if length part == 0 then [] else part ∷ []
without_empty_end (part ∷ next ∷ parts) = part ∷ without_empty_end (next ∷ parts)

-- the lines of a text, without the line feed that ends each
abbrev pub lines_of : List ℕ → List (List ℕ)
lines_of text = without_empty_end (slice_split (λ b. b == 10) text)

-- a line as it is
abbrev pub reason_data : List ℕ → Data
reason_data line = string line

-- an object with the lines of a text as one member more
abbrev pub with_why : List ℕ → Data → Data
with_why reasons (object members) = object (put_member (codes "why") (list (map reason_data (lines_of reasons))) members)
with_why reasons other = other

-- the answer to a mount request, for a client with this credential of its own, if it told one, and the lines that say why
abbrev pub why_data : Content → Option Cred → Result Grant Denial → List ℕ → Data
why_data content own verdict reasons = with_why reasons (named_verdict content own verdict)
