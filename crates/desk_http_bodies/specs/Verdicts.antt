-- The bodies of replies to a mount request. (this project's own)
use Rattle.std.specs.Prelude.{ℕ, List, [], ◌∷◌, ◌++◌, Option, Result, Ok, Err, codes, map}
use Rattle.std.specs.Option.{option_map}
use Rattle.serde_json.specs.Data.{Data, boolean, string}
use Rattle.desk_tables.specs.Credentials.{cred_text}
use Rattle.desk_tables.specs.declared.credentials.Cred.{Cred}
use Rattle.desk_exports.specs.Flavours.{flavour_word}
use Rattle.desk_exports.specs.declared.entry.Flavour.{Flavour}
use Rattle.desk_exports.specs.declared.entry.Mapping.{Mapping}
use Rattle.desk_exports.specs.declared.entry.Mapping.TheVariants.{Root, All}
use Rattle.desk_exports.specs.declared.entry.Terms.{Terms}
use Rattle.desk_policy.specs.ActingAs.{act_as}
use Rattle.desk_policy.specs.Policy.{Content}
use Rattle.desk_policy.specs.Prints.{mount_text}
use Rattle.desk_policy.specs.Verdict.{Grant}
use Rattle.desk_policy.specs.declared.verdict.Denial.{Denial}
use Rattle.desk_policy.specs.declared.verdict.Denial.TheVariants.{NoFileSystem, NoLine, NotListed}
use Rattle.desk_http_bodies.specs.Json.{count, entries, list, member_if}

-- who is mapped: uid 0 alone, or everybody
abbrev pub map_word : Mapping → List ℕ
map_word (Root cred) = codes "root"
map_word (All cred) = codes "all"

-- as whom the mapped clients act
abbrev pub mapped_cred : Mapping → Cred
mapped_cred (Root cred) = cred
mapped_cred (All cred) = cred

-- a flavour
abbrev pub flavour_data : Flavour → Data
flavour_data flavour = string (flavour_word flavour)

-- the flavours of a line
abbrev pub flavours_data : List Flavour → Data
flavours_data flavours = list (map flavour_data flavours)

-- what is said of a granted mount: by which line of which file system, on what terms, and, as text, the credential as which the
-- client acts
abbrev pub grant_data : List ℕ → ℕ → Terms → Option (List ℕ) → Data
grant_data fs line terms acts = entries (
    member_if (codes "acts") string acts
    ++ ((codes "flavours", flavours_data terms.flavours)
    ∷ (codes "fs", string fs)
    ∷ (codes "line", count line)
    ∷ (codes "map", string (map_word terms.map))
    ∷ (codes "mapped", string (cred_text (mapped_cred terms.map)))
    ∷ (codes "ro", boolean terms.ro)
    ∷ (codes "verdict", string (codes "granted"))
    ∷ []))

-- a granted mount, for a client with this credential of its own, if it told one
abbrev pub granted_data : Content → Option Cred → Grant → Data
granted_data content own grant =
    grant_data (mount_text content grant.fs.0) grant.line grant.terms (option_map (λ cred. cred_text (act_as grant.terms cred)) own)

-- a denied mount, with what is known of why
abbrev pub denied_data : Content → Denial → Data
denied_data content NoFileSystem = entries ((codes "reason", count 1) ∷ (codes "verdict", string (codes "denied")) ∷ [])
denied_data content (NoLine fs) =
    entries ((codes "fs", string (mount_text content fs.0)) ∷ (codes "reason", count 2) ∷ (codes "verdict", string (codes "denied")) ∷ [])
denied_data content (NotListed fs line) = entries (
    (codes "fs", string (mount_text content fs.0)) ∷ (codes "line", count line) ∷ (codes "reason", count 3)
    ∷ (codes "verdict", string (codes "denied")) ∷ [])

-- the answer to a mount request, for a client with this credential of its own, if it told one
abbrev pub verdict_data : Content → Option Cred → Result Grant Denial → Data
verdict_data content own (Ok grant) = granted_data content own grant
verdict_data content own (Err denial) = denied_data content denial
