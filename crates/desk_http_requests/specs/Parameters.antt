-- The parameters of a query. (URL Standard, section 5.1)
use Rattle.std.specs.Prelude.{ℕ, List, [], ◌∷◌, map, filter, Option, Some, None}
use Rattle.std.specs.Option.{option_map}
use Rattle.std.specs.Str.{bytes_eq}
use Rattle.std.specs.Str.Lossy.{utf8_lossy}
use Rattle.form_urlencoded.specs.Form.{raw_pairs, decode}
use Rattle.desk_http_requests.specs.declared.parameters.Parameter.{Parameter as Lent}

-- a parameter: its name and its value
abbrev pub Parameter : Type 0
Parameter = List ℕ × List ℕ

-- the text that an encoded name or value stands for
abbrev pub text_of : List ℕ → List ℕ
text_of encoded = utf8_lossy (decode encoded)

-- a name and a value, decoded
abbrev pub decoded : List ℕ × List ℕ → Parameter
decoded pair = (text_of pair.0, text_of pair.1)

-- the parameters of a query, in order
unfoldable pub parameters_of : List ℕ → List Parameter
parameters_of query = map decoded (raw_pairs query)

-- parameters in memory as pairs of texts
abbrev pub pairs : List Lent → List Parameter
pairs parameters = map (λ p. (p.name, p.value)) parameters

-- the values of the parameters of this name, in order
abbrev pub values_of : List ℕ → List Parameter → List (List ℕ)
values_of name parameters = map (λ p. p.1) (filter (λ p. bytes_eq p.0 name) parameters)

-- the only value
abbrev pub one : List (List ℕ) → Option (List ℕ)
one [] = None
one (value ∷ []) = Some value
one (value ∷ other ∷ values) = None

-- what the only value is read as, if there is one; None if it cannot be read, or if there are more
abbrev pub at_most_one : {A : Type 0} → (List ℕ → Option A) → List (List ℕ) → Option (Option A)
at_most_one read [] = Some None
at_most_one read (value ∷ []) = option_map Some (read value)
at_most_one read (value ∷ other ∷ values) = None

-- a list with one value more at its front, if both are read
abbrev pub put_first : {A : Type 0} → Option A → Option (List A) → Option (List A)
put_first None rest = None
put_first (Some first) None = None
put_first (Some first) (Some rest) = Some (first ∷ rest)

-- what all of them are read as, if each can be read
abbrev pub each_read : {A : Type 0} → (List ℕ → Option A) → List (List ℕ) → Option (List A)
each_read read [] = Some []
each_read read (text ∷ texts) = put_first (read text) (each_read read texts)
