-- How much of something there is, in words. (this project's own)
use Rattle.std.specs.Prelude.{ℕ, ◌==◌, ◌-◌, ◌*◌, ◌/◌, ◌%◌, List, [], ◌++◌, codes, nat_lt, if◌then◌else◌}
use Rattle.std.specs.Fmt.{decimal}
use Rattle.page_html.specs.Numbers.{number}

-- so many of what the first word says of one, and the second of more
abbrev pub plural : ℕ → List ℕ → List ℕ → List ℕ
plural count one more = number count ++ codes " " ++ (if count == 1 then one else more)

-- behind some that are named, how many more there are
abbrev pub and_more : ℕ → List ℕ
and_more count = codes " and " ++ number count ++ codes " more"

-- all but a number, before which no line is broken
abbrev pub all_but : ℕ → List ℕ
all_but count = codes "all&nbsp;but&nbsp;" ++ number count

-- how much of a whole: none, all, all but a number if that is shorter, or the number
abbrev pub part : ℕ → ℕ → List ℕ
part count whole =
    if count == 0 then codes "none"
    else if count == whole then codes "all"
    else if nat_lt (whole / 2) count then all_but (whole - count)
    else number count

-- digits behind a point, without zeros at the end: one, two, three and four of them
abbrev pub one_place : ℕ → List ℕ
one_place n = if n == 0 then [] else decimal n

abbrev pub two_places : ℕ → List ℕ
two_places n = if n == 0 then [] else decimal (n / 10) ++ one_place (n % 10)

abbrev pub three_places : ℕ → List ℕ
three_places n = if n == 0 then [] else decimal (n / 100) ++ two_places (n % 100)

abbrev pub four_places : ℕ → List ℕ
four_places n = if n == 0 then [] else codes "." ++ decimal (n / 1000) ++ three_places (n % 1000)

-- so many millionths as a percentage, as `12.5 %`
abbrev pub millionths : ℕ → List ℕ
millionths parts = decimal (parts / 10000) ++ four_places (parts % 10000) ++ codes " %"

-- how much of a whole, rounded down to a millionth, but a part is never none of it
abbrev pub percent : ℕ → ℕ → List ℕ
percent count whole =
    if count == whole then codes "100 %"
    else if count == 0 then codes "0 %"
    else if nat_lt (count * 1000000) whole then codes "under 0.0001 %"
    else millionths (count * 1000000 / whole)
