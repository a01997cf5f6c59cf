-- The bodies of replies to who may mount a directory. (this project's own)
use Rattle.std.specs.Prelude.{ℕ, List, [], ◌∷◌, Result, Ok, Err, codes, map}
use Rattle.serde_json.specs.Data.{Data, boolean, string}
use Rattle.desk_text.specs.Address.{addr_text}
use Rattle.desk_text.specs.Path.{path_text}
use Rattle.desk_tables.specs.Credentials.{cred_text}
use Rattle.desk_exports.specs.declared.entry.Terms.{Terms}
use Rattle.desk_policy.specs.Policy.{Content}
use Rattle.desk_policy.specs.Prints.{mount_text}
use Rattle.desk_policy.specs.Verdict.{Grant}
use Rattle.desk_policy.specs.declared.verdict.Denial.{Denial}
use Rattle.desk_policy.specs.declared.verdict.Denial.TheVariants.{NoFileSystem, NoLine, NotListed}
use Rattle.desk_who.specs.Runs.{Run}
use Rattle.desk_http_bodies.specs.Json.{count, entries, list}
use Rattle.desk_http_bodies.specs.Verdicts.{flavours_data, map_word, mapped_cred}

-- a range of addresses, of printed ends, to which a mount is granted: by which line of which file system, and on what terms
abbrev pub granted_range : List ℕ → List ℕ → List ℕ → ℕ → Terms → Data
granted_range first last fs line terms = entries (
    (codes "first", string first)
    ∷ (codes "flavours", flavours_data terms.flavours)
    ∷ (codes "fs", string fs)
    ∷ (codes "last", string last)
    ∷ (codes "line", count line)
    ∷ (codes "map", string (map_word terms.map))
    ∷ (codes "mapped", string (cred_text (mapped_cred terms.map)))
    ∷ (codes "ro", boolean terms.ro)
    ∷ (codes "verdict", string (codes "granted"))
    ∷ [])

-- one to which it is denied, with what is known of why
abbrev pub denied_range : Content → List ℕ → List ℕ → Denial → Data
denied_range content first last NoFileSystem =
    entries ((codes "first", string first) ∷ (codes "last", string last) ∷ (codes "reason", count 1) ∷ (codes "verdict", string (codes "denied")) ∷ [])
denied_range content first last (NoLine fs) = entries (
    (codes "first", string first) ∷ (codes "fs", string (mount_text content fs.0)) ∷ (codes "last", string last) ∷ (codes "reason", count 2)
    ∷ (codes "verdict", string (codes "denied")) ∷ [])
denied_range content first last (NotListed fs line) = entries (
    (codes "first", string first) ∷ (codes "fs", string (mount_text content fs.0)) ∷ (codes "last", string last) ∷ (codes "line", count line)
    ∷ (codes "reason", count 3) ∷ (codes "verdict", string (codes "denied")) ∷ [])

abbrev pub ended_range : Content → List ℕ → List ℕ → Result Grant Denial → Data
ended_range content first last (Ok grant) = granted_range first last (mount_text content grant.fs.0) grant.line grant.terms
ended_range content first last (Err denial) = denied_range content first last denial

-- a range with its verdict: its ends, and the members of the verdict
abbrev pub range_data : Content → Run (Result Grant Denial) → Data
range_data content range = ended_range content (addr_text range.first) (addr_text range.last) range.value

-- who may mount a path: the path in its printed form, and the ranges
abbrev pub who_data : Content → List (List ℕ) → List (Run (Result Grant Denial)) → Data
who_data content path ranges = entries ((codes "dir", string (path_text path)) ∷ (codes "ranges", list (map (range_data content) ranges)) ∷ [])
