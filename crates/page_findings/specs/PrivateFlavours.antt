-- What the private contracts of flavours cite.
use Rattle.std.specs.Prelude.{◌++◌, ◌∷◌, [], List, if◌then◌else◌}
use Rattle.std.specs.List.{list_any}
use Rattle.desk_exports.specs.declared.entry.Flavour.{Flavour}
use Rattle.page_findings.specs.Flavours.{same_flavours}

-- a list at the end, if it is not there yet
abbrev pub with_distinct : List (List Flavour) → List Flavour → List (List Flavour)
with_distinct lists flavours = if list_any (λ other. same_flavours other flavours) lists then lists else lists ++ flavours ∷ []
