-- All exports of a policy, as `exports` prints them as JSON. (this project's own)
use Rattle.std.specs.Prelude.{ℕ, List, [], ◌∷◌, codes, length, map}
use Rattle.std.specs.List.{flat_map, range_with_len}
use Rattle.serde_json.specs.Data.{Data, boolean, string}
use Rattle.desk_tables.specs.Credentials.{cred_text}
use Rattle.desk_exports.specs.declared.entry.Clients.{Clients}
use Rattle.desk_exports.specs.declared.entry.Clients.TheVariants.{Hosts}
use Rattle.desk_exports.specs.declared.entry.Entry.{Entry}
use Rattle.desk_policy.specs.ListingPrints.{clients_text}
use Rattle.desk_policy.specs.Policy.{Content, rows_of}
use Rattle.desk_policy.specs.Prints.{mount_text}
use Rattle.desk_http_bodies.specs.Exports.{dir_data}
use Rattle.desk_http_bodies.specs.Json.{count, entries, list}
use Rattle.desk_http_bodies.specs.Verdicts.{flavours_data, map_word, mapped_cred}

-- whom a line is for: each of its names as written; or its network, or everybody, as they are printed
abbrev pub clients_data : Clients → List Data
clients_data (Hosts names) = map (λ name. string name) names
clients_data clients = string (clients_text clients) ∷ []

-- a line of the file system with this printed mount point: its directories in the order written, whom it is for, and on what terms
abbrev pub line_data : List ℕ → Entry → Data
line_data mount entry = entries (
    (codes "alldirs", boolean entry.alldirs)
    ∷ (codes "clients", list (clients_data entry.clients))
    ∷ (codes "dirs", list (map dir_data entry.dirs))
    ∷ (codes "flavours", flavours_data entry.terms.flavours)
    ∷ (codes "fs", string mount)
    ∷ (codes "line", count entry.line)
    ∷ (codes "map", string (map_word entry.terms.map))
    ∷ (codes "mapped", string (cred_text (mapped_cred entry.terms.map)))
    ∷ (codes "ro", boolean entry.terms.ro)
    ∷ [])

-- the lines of a file system
abbrev pub system_lines : Content → ℕ → List Data
system_lines content fs = map (λ row. line_data (mount_text content fs) row.entry) (rows_of content fs)

-- all lines of a policy, by mount point and line
abbrev pub all_exports_data : Content → Data
all_exports_data content =
    entries ((codes "exports", list (flat_map (system_lines content) (range_with_len 0 (length content.table)))) ∷ [])
