-- The exit status of changes that are listed. (this project's own)
use Rattle.std.specs.Prelude.{ℕ, Bool, List, if◌then◌else◌}
use Rattle.std.specs.List.{list_any}
use Rattle.desk_impact.specs.ListedChanges.{ListedPlace}

-- a change at this place matters to a client
abbrev pub matters_at : ListedPlace → Bool
matters_at place = list_any (λ one. one.matters) place.changes

-- 1 if one of them matters to a client, else 0
abbrev pub changes_status : List ListedPlace → ℕ
changes_status found = if list_any matters_at found then 1 else 0
