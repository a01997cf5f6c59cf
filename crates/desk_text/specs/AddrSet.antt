-- Sets of addresses, seen as the numbers of the addresses in ascending order, each once. (this project's own)
use Rattle.std.specs.Prelude.{ℕ, ◌==◌, nat_lt, Bool, List, [], ◌∷◌, if◌then◌else◌}
use Rattle.std.specs.List.{list_any}

-- a number is one of these
abbrev pub is_among : ℕ → List ℕ → Bool
is_among number numbers = list_any (λ other. other == number) numbers

-- an ascending list with one more number in its place, unless it has it already
abbrev pub insert_sorted : ℕ → List ℕ → List ℕ
insert_sorted number [] = number ∷ []
insert_sorted number (first ∷ others) =
    if nat_lt number first then number ∷ first ∷ others
    else (if number == first then first ∷ others
    else first ∷ insert_sorted number others)

-- the numbers in ascending order, each once
abbrev pub sorted_set : List ℕ → List ℕ
sorted_set [] = []
sorted_set (number ∷ numbers) = insert_sorted number (sorted_set numbers)
