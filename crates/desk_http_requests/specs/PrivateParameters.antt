-- What the private contracts of the parameters of a query cite.
use Rattle.std.specs.Prelude.{◌≡◌, ◌<◌, ℕ, List, [], ◌∷◌, ◌++◌, length, Option, Some, None}
use Rattle.desk_http_requests.specs.declared.parameters.Given.{Given}
use Rattle.desk_http_requests.specs.declared.parameters.Given.TheVariants as given

-- a list with one value more at its end, if both are read
abbrev pub put_last : {A : Type 0} → Option (List A) → Option A → Option (List A)
put_last None last = None
put_last (Some before) None = None
put_last (Some before) (Some last) = Some (before ++ last ∷ [])

-- these are the values: none, this one, or more
abbrev pub IsGiven : List (List ℕ) → Given → Type 0
IsGiven values given.Missing = values ≡ []
IsGiven values (given.Once value) = values ≡ value.now ∷ []
IsGiven values given.Many = 1 < length values
