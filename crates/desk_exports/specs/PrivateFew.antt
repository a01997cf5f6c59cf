-- What the model of a list of mostly one value cites.
use Rattle.std.specs.Prelude.{List, [], ◌∷◌}
use Rattle.desk_exports.specs.declared.few.Values.{Values}
use Rattle.desk_exports.specs.declared.few.Values.TheVariants.{Nothing, One, Many}

-- the values that lie in the list itself, or in a vector
abbrev pub values_in : {T : Type 0} → Values T → List T
values_in Nothing = []
values_in (One value) = value ∷ []
values_in (Many values) = values.value.items
