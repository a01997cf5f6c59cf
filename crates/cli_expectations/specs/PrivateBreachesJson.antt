-- What the private contracts of the list of breaches cite: the same as it is printed, of breaches that lend.
use Rattle.std.specs.Prelude.{ℕ, List, [], ◌∷◌, ◌++◌, codes}
use Rattle.std.specs.List.{flat_map}
use Rattle.desk_policy.specs.Policy.{Content}
use Rattle.cli_expectations.specs.BreachesJson.{breach_value, object_text}
use Rattle.cli_expectations.specs.declared.breaches_json.Breach.{Breach}

-- one after the first
abbrev pub later_of : Content → List ℕ → Breach → List ℕ
later_of content file breach = codes "," ++ object_text content file (breach_value breach)

abbrev pub elements_of : Content → List ℕ → List Breach → List ℕ
elements_of content file [] = []
elements_of content file (breach ∷ more) = object_text content file (breach_value breach) ++ flat_map (later_of content file) more

abbrev pub list_of : Content → List ℕ → List Breach → List ℕ
list_of content file breaches = codes "[" ++ elements_of content file breaches ++ codes "]\n"
