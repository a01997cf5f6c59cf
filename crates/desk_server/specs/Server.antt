-- By which rule mountd(8) grants a mount over NFSv3, and on what terms the kernel then serves the client: as their manual pages
-- and sources read, where every line is in force. (mountd(8), exports(5))
use Rattle.std.specs.Prelude.{ℕ, ◌==◌, Bool, false, List, [], ◌∷◌, Option, None, Some, Result, Ok, Err, filter, nat_lt}
use Rattle.desk_tables.specs.FileSystems.{fs_of}
use Rattle.desk_tables.specs.declared.filesystems.FsId.{FsId}
use Rattle.desk_policy.specs.Policy.{Content, rows_of}
use Rattle.desk_policy.specs.Verdict.{Grant, lists}
use Rattle.desk_policy.specs.Weights.{selected, weight_of}
use Rattle.desk_policy.specs.declared.row.Row.{Row}
use Rattle.desk_policy.specs.declared.verdict.Denial.{Denial}
use Rattle.desk_policy.specs.declared.verdict.Denial.TheVariants.{NoFileSystem, NoLine, NotListed}

-- With this weight a line matches by a name or by a network: by a network of the prefix 0, too.
abbrev pub is_named : Option ℕ → Bool
is_named None = false
is_named (Some weight) = nat_lt 0 weight

-- with this weight a line matches since it is for everybody
abbrev pub is_everybody : Option ℕ → Bool
is_everybody None = false
is_everybody (Some weight) = weight == 0

-- the lines that match an address by a name or by a network, and those that match it since they are for everybody
abbrev pub named : List Row → ℕ → List Row
named rows address = filter (λ row. is_named (weight_of row address)) rows

abbrev pub for_everybody : List Row → ℕ → List Row
for_everybody rows address = filter (λ row. is_everybody (weight_of row address)) rows

-- these lines, or the others if there are none
abbrev pub or_others : List Row → List Row → List Row
or_others [] others = others
or_others (row ∷ rows) others = row ∷ rows

-- The lines that mountd asks whether they list a directory: those that name the client; if there are none, those for everybody.
unfoldable pub asked : List Row → ℕ → List Row
asked rows address = or_others (named rows address) (for_everybody rows address)

-- of the lines that mountd asks, and that list a path, the heaviest
abbrev pub granting : (Row → Bool) → List Row → ℕ → List Row
granting listing rows address = selected (filter listing (asked rows address)) address

-- The mount is granted by the first of the granting lines, on the terms of the first selected line. If there is none, it is denied,
-- and the first selected line is named.
abbrev pub granted_on : FsId → Row → List Row → Result Grant Denial
granted_on fs first [] = Err (NotListed fs first.entry.line)
granted_on fs first (row ∷ rows) = Ok (record { fs = fs; line = row.entry.line; terms = first.entry.terms })

-- the same by the selected lines and the granting ones; if no line is selected, none matches
abbrev pub server_verdict_by : FsId → List Row → List Row → Result Grant Denial
server_verdict_by fs [] granting_lines = Err (NoLine fs)
server_verdict_by fs (first ∷ others) granting_lines = granted_on fs first granting_lines

-- the verdict of the server among the lines of a file system, by which of them lists the path
abbrev pub server_verdict_among : FsId → (Row → Bool) → List Row → ℕ → Result Grant Denial
server_verdict_among fs listing rows address = server_verdict_by fs (selected rows address) (granting listing rows address)

-- the verdict of the server on a path of this file system
abbrev pub server_verdict_in : Content → ℕ → List (List ℕ) → Option ℕ → Result Grant Denial
server_verdict_in content address path None = Err NoFileSystem
server_verdict_in content address path (Some fs) = server_verdict_among (record { 0 = fs }) (lists content fs path) (rows_of content fs) address

-- the verdict of the server for an address and a path
unfoldable pub server_verdict_of : Content → ℕ → List (List ℕ) → Result Grant Denial
server_verdict_of content address path = server_verdict_in content address path (fs_of content.table path)
