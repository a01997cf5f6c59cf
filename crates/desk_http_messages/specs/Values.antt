-- What a look for the values of a header found. (this project's own)
use Rattle.std.specs.Prelude.{◌≡◌, ℕ, ◌<◌, List, [], ◌∷◌, length}
use Rattle.desk_http_messages.specs.declared.fields.Values.{Values}
use Rattle.desk_http_messages.specs.declared.fields.Values.TheVariants.{None, One, Many}

-- these are the values: none, this one, or more
abbrev pub AreValues : List (List ℕ) → Values → Type 0
AreValues values None = values ≡ []
AreValues values (One value) = values ≡ value.now ∷ []
AreValues values Many = 1 < length values
