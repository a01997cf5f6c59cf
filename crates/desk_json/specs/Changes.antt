-- What another policy would change, as `compare` and `impact` print it as JSON. (this project's own)
use Rattle.std.specs.Prelude.{◌≡◌, ℕ, ◌||◌, Bool, true, false, None, List, [], ◌∷◌, codes, filter, map}
use Rattle.std.specs.List.{flat_map}
use Rattle.serde_json.specs.Data.{Data, boolean, string}
use Rattle.desk_text.specs.Address.{addr_text}
use Rattle.desk_text.specs.Path.{path_text}
use Rattle.desk_policy.specs.Policy.{Content}
use Rattle.desk_impact.specs.Impact.{TwoVerdicts}
use Rattle.desk_impact.specs.ListedChanges.{ListedChange, ListedPlace}
use Rattle.desk_impact.specs.Places.{Directory, Others, Place}
use Rattle.desk_http_bodies.specs.Json.{entries, list}
use Rattle.desk_http_bodies.specs.Verdicts.{verdict_data}
use Rattle.desk_who.specs.Runs.{Run}

-- the directory of a place, or the mount point whose other directories it is
abbrev pub dir_of : Place → List (List ℕ)
dir_of (Directory path) = path
dir_of (Others mount) = mount

-- a place is the other directories of a mount point
abbrev pub is_others : Place → Bool
is_others (Directory path) = false
is_others (Others mount) = true

-- a range of addresses with its verdicts under two policies, at a place, and whether the change matters to a client
abbrev pub change_data : Content → Content → Place → Run TwoVerdicts → Bool → Data
change_data before after place change matters = entries (
    (codes "after", verdict_data after None change.value.after)
    ∷ (codes "before", verdict_data before None change.value.before)
    ∷ (codes "dir", string (path_text (dir_of place)))
    ∷ (codes "first", string (addr_text change.first))
    ∷ (codes "last", string (addr_text change.last))
    ∷ (codes "matters", boolean matters)
    ∷ (codes "others", boolean (is_others place))
    ∷ [])

-- the changes that are listed: all, or those that matter
abbrev pub listed : Bool → List ListedChange → List ListedChange
listed all changes = filter (λ one. all || one.matters) changes

-- those of the changes at a place
abbrev pub changes_at : Content → Content → Bool → Place → List ListedChange → List Data
changes_at before after all place changes = map (λ one. change_data before after place one.change one.matters) (listed all changes)

abbrev pub place_data : Content → Content → Bool → ListedPlace → List Data
place_data before after all found = changes_at before after all found.place found.changes

-- the changes of each place, in order
abbrev pub changes_data : Content → Content → Bool → List ListedPlace → Data
changes_data before after all found = entries ((codes "changes", list (flat_map (place_data before after all) found)) ∷ [])

-- Of the policies only the mount points count, by which verdicts name file systems: what is told beside another policy with the same file
-- systems is the same.
abbrev pub ChangesNameMounts : Type 0
ChangesNameMounts =
    (before after other : Content) (all : Bool) (found : List ListedPlace) → other.table ≡ after.table → changes_data before other all found ≡ changes_data before after all found
