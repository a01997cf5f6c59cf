-- How much of something there is, in words. (this project's own)
use Rattle.std.specs.Prelude.{ℕ, ◌==◌, List, [], ◌++◌, codes, nat_lt, if◌then◌else◌}
use Rattle.page_html.specs.Amounts.{and_more, part, percent}
use Rattle.page_html.specs.Escaping.{attribute}
use Rattle.page_html.specs.Numbers.{number}

-- so many of what the first word says of one, and the second of more
abbrev pub plural : ℕ → List ℕ → List ℕ → List ℕ
plural count one several = number count ++ codes " " ++ attribute (if count == 1 then one else several)

-- behind some that are named, how many more there are, if there are any
abbrev pub more : ℕ → List ℕ
more count = if count == 0 then [] else and_more count

-- how much of a whole a number is; one that is larger counts as the whole
abbrev pub part_of : ℕ → ℕ → List ℕ
part_of count whole = if nat_lt count whole then part count whole else part whole whole

-- the same as a percentage, of a whole that is not more than all addresses
abbrev pub percent_of : ℕ → ℕ → List ℕ
percent_of count whole =
    if nat_lt 4294967296 whole then []
    else if nat_lt count whole then percent count whole
    else codes "100 %"
