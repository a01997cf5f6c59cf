-- What the private contracts of the results of a log cite.
use Rattle.std.specs.Prelude.{ℕ, Bool, List, Option, None, Some, codes}
use Rattle.serde_json.specs.Data.{Members, put}
use Rattle.desk_origins.specs.Origins.{own_number, own_path}
use Rattle.desk_origins.specs.declared.origins.Origin.{Origin}
use Rattle.desk_sarif.specs.Logs.{line_in, single}
use Rattle.desk_sarif.specs.Sarif.{suppressions}

-- the members with that of another line, if there is one
abbrev pub put_other : List ℕ → List Origin → List ℕ → Option ℕ → Members → Members
put_other words origins path None members = members
put_other words origins path (Some line) members = put (codes "relatedLocations") (single (line_in words (own_path origins path line) (own_number origins line))) members

-- the members with what is said of suppression, if it is said
abbrev pub put_suppressions : Option Bool → Members → Members
put_suppressions None members = members
put_suppressions (Some suppressed) members = put (codes "suppressions") (suppressions suppressed) members
