-- The bodies of replies to what a client may mount. (this project's own)
use Rattle.std.specs.Prelude.{ℕ, List, [], ◌∷◌, codes, map}
use Rattle.serde_json.specs.Data.{Data, boolean, string}
use Rattle.desk_text.specs.Address.{addr_text}
use Rattle.desk_text.specs.Path.{path_text}
use Rattle.desk_tables.specs.Credentials.{cred_text}
use Rattle.desk_policy.specs.Policy.{Content}
use Rattle.desk_policy.specs.Prints.{mount_text}
use Rattle.desk_policy.specs.declared.listings.Shown.{Shown}
use Rattle.desk_http_bodies.specs.Json.{count, entries, list}
use Rattle.desk_http_bodies.specs.Verdicts.{flavours_data, map_word, mapped_cred}

-- a directory in its printed form
abbrev pub dir_data : List (List ℕ) → Data
dir_data dir = string (path_text dir)

-- what is shown of a file system
abbrev pub system_data : Content → Shown → Data
system_data content shown = entries (
    (codes "alldirs", boolean shown.alldirs)
    ∷ (codes "dirs", list (map dir_data shown.dirs))
    ∷ (codes "flavours", flavours_data shown.terms.flavours)
    ∷ (codes "lines", list (map count shown.lines))
    ∷ (codes "map", string (map_word shown.terms.map))
    ∷ (codes "mapped", string (cred_text (mapped_cred shown.terms.map)))
    ∷ (codes "mount", string (mount_text content shown.fs.0))
    ∷ (codes "ro", boolean shown.terms.ro)
    ∷ [])

-- what the client of an address may mount
abbrev pub exports_data : Content → ℕ → List Shown → Data
exports_data content address systems =
    entries ((codes "host", string (addr_text address)) ∷ (codes "systems", list (map (system_data content) systems)) ∷ [])
