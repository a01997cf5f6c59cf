-- What the model of the addresses of a line in force cites.
use Rattle.std.specs.Prelude.{ℕ, List, [], ◌∷◌}
use Rattle.desk_text.specs.Address.{number_of}
use Rattle.desk_policy.specs.declared.row_addrs.Values.{Values}
use Rattle.desk_policy.specs.declared.row_addrs.Values.TheVariants.{Nothing, One, Many}

-- the addresses that lie in the set itself, or in a list
abbrev pub addresses_in : Values → List ℕ
addresses_in Nothing = []
addresses_in (One address) = number_of address ∷ []
addresses_in (Many shared) = shared.value
