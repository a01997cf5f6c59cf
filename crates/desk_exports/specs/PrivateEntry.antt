-- What the model of a mapping that may be unwritten cites.
use Rattle.std.specs.Prelude.{[], ◌∷◌, Option, Some, None}
use Rattle.desk_exports.specs.declared.entry.Mapping.{Mapping}
use Rattle.desk_exports.specs.declared.entry.Mapping.TheVariants.{Root}

-- the mapping that is written; if none is, uid 0 acts as nobody
abbrev pub mapping_if_written : Option Mapping → Mapping
mapping_if_written None = Root (record { uid = 65534; gids = 65533 ∷ [] })
mapping_if_written (Some mapping) = mapping
