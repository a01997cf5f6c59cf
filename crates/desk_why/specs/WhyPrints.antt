-- Why a mount is granted or denied, as it is printed: the lines that match the client, and which of them decides. (this
-- project's own)
use Rattle.std.specs.Prelude.{ℕ, ◌==◌, ◌++◌, Bool, List, [], ◌∷◌, Option, Some, None, Result, Ok, Err, codes, count_by, length, if◌then◌else◌}
use Rattle.std.specs.Fmt.{decimal}
use Rattle.std.specs.List.{flat_map}
use Rattle.desk_text.specs.Address.{addr_text}
use Rattle.desk_text.specs.Path.{path_text}
use Rattle.desk_tables.specs.FileSystems.{fs_of}
use Rattle.desk_tables.specs.declared.hosts.HostRow.{HostRow}
use Rattle.desk_netgroup.specs.declared.group_line.GroupLine.{GroupLine}
use Rattle.desk_exports.specs.declared.entry.Clients.{Clients}
use Rattle.desk_exports.specs.declared.entry.Clients.TheVariants.{Hosts, Net, Net6, World}
use Rattle.desk_origins.specs.Origins.{line_name}
use Rattle.desk_origins.specs.declared.origins.Origin.{Origin}
use Rattle.desk_policy.specs.Names.{first_name_for}
use Rattle.desk_policy.specs.Policy.{Content, rows_of}
use Rattle.desk_policy.specs.Prints.{mount_text}
use Rattle.desk_policy.specs.Verdict.{Grant, lists_here, verdict_of}
use Rattle.desk_policy.specs.Weights.{weight_of}
use Rattle.desk_policy.specs.declared.row.Row.{Row}
use Rattle.desk_policy.specs.declared.verdict.Denial.{Denial}
use Rattle.desk_policy.specs.declared.verdict.Denial.TheVariants.{NoFileSystem, NoLine, NotListed}
use Rattle.desk_why.specs.Matches.{first_weight, is_as_heavy, is_for_nobody, matching}

-- the number of the line that a verdict names, 0 if it names none
abbrev pub line_named : Result Grant Denial → ℕ
line_named (Ok grant) = grant.line
line_named (Err NoFileSystem) = 0
line_named (Err (NoLine fs)) = 0
line_named (Err (NotListed fs line)) = line

-- a name, if there is one
abbrev pub name_text : Option (List ℕ) → List ℕ
name_text None = []
name_text (Some name) = name

-- What a line matches a client by: the first of its names that stands for the address, as written; its network; or that it is for
-- everybody.
abbrev pub match_text : List GroupLine → List HostRow → ℕ → Clients → List ℕ
match_text netgroups hosts address (Hosts names) = codes "name " ++ name_text (first_name_for netgroups hosts names address)
match_text netgroups hosts address (Net net noted) = codes "network " ++ addr_text net.first ++ 47 ∷ decimal net.prefix
match_text netgroups hosts address (Net6 value) = codes "nobody"
match_text netgroups hosts address World = codes "everybody"

-- A line decides if the verdict names it; any other of the greatest weight is as heavy as that one, and the rest are outweighed by
-- it.
abbrev pub status_text : List Origin → ℕ → ℕ → Bool → List ℕ
status_text origins named line heavy =
    if line == named then codes "decides"
    else if heavy then codes "as heavy as line " ++ line_name origins named
    else codes "outweighed by line " ++ line_name origins named

-- whether a line lists the path
abbrev pub lists_text : Bool → List ℕ
lists_text listed = if listed then codes "lists" else codes "does not list"

-- the pieces of a line of text, the first of which names the line, as `line 1 name friends: decides, does not list /u2/x`
abbrev pub line_text : List ℕ → List ℕ → List ℕ → List ℕ → List ℕ → List ℕ
line_text line match status listing path = codes "line " ++ line ++ codes " " ++ match ++ codes ": " ++ status ++ codes ", " ++ listing ++ codes " " ++ path ++ codes "\n"

-- what is printed of a line that matches
abbrev pub row_line : List GroupLine → List HostRow → ℕ → List (List ℕ) → List Origin → ℕ → Option ℕ → Row → List ℕ
row_line netgroups hosts address path origins named greatest row =
    line_text (line_name origins row.entry.line) (match_text netgroups hosts address row.entry.clients) (status_text origins named row.entry.line (is_as_heavy greatest (weight_of row address)))
    (lists_text (lists_here path row)) (path_text path)

-- a line for each of these lines
abbrev pub row_lines : List GroupLine → List HostRow → ℕ → List (List ℕ) → List Origin → ℕ → List Row → List ℕ
row_lines netgroups hosts address path origins named rows = flat_map (row_line netgroups hosts address path origins named (first_weight rows address)) rows

-- how many lines are for nobody, if there are some
abbrev pub nobody_text : ℕ → List ℕ
nobody_text count = if count == 0 then [] else codes ", " ++ decimal count ++ codes " for nobody"

-- how many lines match, as `lines of /u2 that match 10.0.0.5: 1 of 3, 1 for nobody`
abbrev pub count_line : List ℕ → ℕ → ℕ → ℕ → ℕ → List ℕ
count_line mount address count all nobody =
    codes "lines of " ++ mount ++ codes " that match " ++ addr_text address ++ codes ": " ++ decimal count ++ codes " of " ++ decimal all ++ nobody_text nobody ++ codes "\n"

-- that no mount point is above a path
abbrev pub mounts_line : List ℕ → ℕ → List ℕ
mounts_line path mounts = codes "mount points above " ++ path ++ codes ": 0 of " ++ decimal mounts ++ codes "\n"

-- what is printed of the lines of a file system
abbrev pub lines_text : List GroupLine → List HostRow → ℕ → List (List ℕ) → List Origin → ℕ → List ℕ → List Row → List ℕ
lines_text netgroups hosts address path origins named mount rows =
    row_lines netgroups hosts address path origins named (matching rows address) ++ count_line mount address (length (matching rows address)) (length rows) (count_by is_for_nobody rows)

-- what is printed of the file system of a path, or that there is none
abbrev pub why_in : List GroupLine → List HostRow → Content → ℕ → List (List ℕ) → Option ℕ → List ℕ
why_in netgroups hosts content address path None = mounts_line (path_text path) (length content.table)
why_in netgroups hosts content address path (Some fs) =
    lines_text netgroups hosts address path content.origins (line_named (verdict_of content address path)) (mount_text content fs) (rows_of content fs)

-- What is printed below the verdict for an address and a path: each line of the path's file system that matches the address, heaviest
-- first, and how many there are; or that no mount point is above the path.
abbrev pub why_text : List GroupLine → List HostRow → Content → ℕ → List (List ℕ) → List ℕ
why_text netgroups hosts content address path = why_in netgroups hosts content address path (fs_of content.table path)
