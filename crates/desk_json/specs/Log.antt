-- The revisions of a file, as `log` prints them as JSON. (this project's own)
use Rattle.std.specs.Prelude.{ℕ, List, [], ◌∷◌, ◌++◌, Option, Some, None, codes, map, if◌then◌else◌}
use Rattle.serde_json.specs.Data.{Data, string}
use Rattle.desk_exports.specs.declared.profile.Profile.{Profile}
use Rattle.desk_exports.specs.declared.profile.Profile.TheVariants.{One, Two}
use Rattle.desk_policy.specs.SiteFile.{is_of_seven}
use Rattle.desk_store.specs.declared.desk.Signature.{Signature}
use Rattle.desk_http_bodies.specs.Json.{count, entries, list, member_if}

-- what is told of a revision's profile: of a text in which the class of a network counts, an exports file's of profile 1, its number
abbrev pub told_profile : List ℕ → Profile → Option ℕ
told_profile file One = if is_of_seven file then None else Some 1
told_profile file Two = None

-- a revision by who signed it: its number, its author, who approved it, if anybody did, and what is told of its profile
abbrev pub signature_data : ℕ → List ℕ → Option (List ℕ) → Option ℕ → Data
signature_data rev author approver profile = entries (
    member_if (codes "approver") string approver
    ++ ((codes "author", string author)
    ∷ (member_if (codes "profile") count profile
    ++ ((codes "rev", count rev) ∷ []))))

abbrev pub revision_data : List ℕ → Signature → Data
revision_data file revision = signature_data revision.rev revision.author revision.approver (told_profile file revision.profile)

-- the revisions of a file
abbrev pub log_data : List ℕ → List Signature → Data
log_data file revisions = entries ((codes "name", string file) ∷ (codes "revisions", list (map (revision_data file) revisions)) ∷ [])
