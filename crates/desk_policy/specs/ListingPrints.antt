-- Listings as they are printed: what one client may mount, and what is exported to whom. (showmount(8), in this project's
-- own form)
use Rattle.std.specs.Prelude.{ℕ, Bool, true, false, List, [], ◌∷◌, ◌++◌, codes, map}
use Rattle.std.specs.Fmt.{decimal}
use Rattle.std.specs.List.{flat_map, join_with_byte}
use Rattle.desk_text.specs.Address.{addr_text}
use Rattle.desk_text.specs.Path.{path_text}
use Rattle.desk_exports.specs.Prints.{terms_text}
use Rattle.desk_exports.specs.declared.entry.Clients.{Clients}
use Rattle.desk_exports.specs.declared.entry.Clients.TheVariants as clients
use Rattle.desk_exports.specs.declared.entry.Entry.{Entry}
use Rattle.desk_origins.specs.Origins.{line_name}
use Rattle.desk_policy.specs.Policy.{Content}
use Rattle.desk_policy.specs.Prints.{mount_text}
use Rattle.desk_policy.specs.declared.listings.Shown.{Shown}

abbrev pub alldirs_text : Bool → List ℕ
alldirs_text true = codes " alldirs"
alldirs_text false = []

-- the first line of what is shown of a file system, as `/usr alldirs rw sec=sys root=0:10 lines 1,3`
abbrev pub shown_line : Content → Shown → List ℕ
shown_line content shown =
    mount_text content shown.fs.0 ++ alldirs_text shown.alldirs ++ 32 ∷ terms_text shown.terms ++ codes " lines " ++ join_with_byte 44 (map (line_name content.origins) shown.lines) ++ 10 ∷ []

-- a line with a directory
abbrev pub dir_line : List (List ℕ) → List ℕ
dir_line dir = codes "  " ++ path_text dir ++ 10 ∷ []

-- what is shown of a file system: its first line, and one for each directory
abbrev pub shown_text : Content → Shown → List ℕ
shown_text content shown = shown_line content shown ++ flat_map dir_line shown.dirs

-- a listing as it is printed
abbrev pub listing_text : Content → List Shown → List ℕ
listing_text content listing = flat_map (shown_text content) listing

-- whom a line is for: its names as written, its network, or everybody
abbrev pub clients_text : Clients → List ℕ
clients_text (clients.Hosts names) = join_with_byte 44 names
clients_text (clients.Net net noted) = addr_text net.first ++ 47 ∷ decimal net.prefix
clients_text (clients.Net6 value) = codes "(ipv6)"
clients_text clients.World = codes "(everyone)"

-- a line with a directory, and whom it is for, as `/usr/local friends`
abbrev pub export_line : List ℕ → List (List ℕ) → List ℕ
export_line clients dir = path_text dir ++ 32 ∷ clients ++ 10 ∷ []

-- a line for each directory of an entry, in the order written
abbrev pub entry_exports : Entry → List ℕ
entry_exports entry = flat_map (export_line (clients_text entry.clients)) entry.dirs

-- all exports, by mount point and line
abbrev pub all_exports : Content → List ℕ
all_exports content = flat_map (flat_map (λ row. entry_exports row.entry)) content.rows

-- whom a line is for, whether it has -alldirs, and on what terms, as `friends ro sec=sys root=65534:65533` or
-- `(everyone) alldirs rw sec=sys root=65534:65533`
abbrev pub granted_text : Entry → List ℕ
granted_text entry = clients_text entry.clients ++ alldirs_text entry.alldirs ++ 32 ∷ terms_text entry.terms

-- a line for each directory of an entry, in the order written, with the terms
abbrev pub entry_terms : Entry → List ℕ
entry_terms entry = flat_map (export_line (granted_text entry)) entry.dirs

-- all exports with their terms, in the same order
abbrev pub all_terms : Content → List ℕ
all_terms content = flat_map (flat_map (λ row. entry_terms row.entry)) content.rows
