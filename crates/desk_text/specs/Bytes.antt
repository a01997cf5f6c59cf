-- Tests of bytes and of digits that several kinds of text share. (this project's own)
use Rattle.std.specs.Prelude.{ℕ, ◌==◌, nat_le, nat_lt, Bool, not, ◌&&◌, ◌||◌, Option, Some, None, List, length, slice_index, find, if◌then◌else◌}
use Rattle.std.specs.List.{list_all, list_any}
use Rattle.std.specs.Char.{is_ascii_digit}
use Rattle.std.specs.Str.Parse.{digits_value}

-- a blank is a space or a tab
abbrev pub is_blank : ℕ → Bool
is_blank b = (b == 32) || (b == 9)

-- the first byte of a text that is not a blank
abbrev pub first_non_blank : List ℕ → Option ℕ
first_non_blank text = find (λ b. not (is_blank b)) text

-- one or more digits
abbrev pub is_digits : List ℕ → Bool
is_digits text = not (length text == 0) && list_all is_ascii_digit text

-- the text begins with `0` and goes on, so it is not a decimal
abbrev pub has_leading_zero : List ℕ → Bool
has_leading_zero text = nat_lt 1 (length text) && (slice_index text 0 == 48)

-- a decimal is `0`, or digits that do not begin with `0`
abbrev pub is_decimal : List ℕ → Bool
is_decimal text = is_digits text && not (has_leading_zero text)

-- the number that a decimal up to `most` writes; another text writes none
abbrev pub read_decimal : ℕ → List ℕ → Option ℕ
read_decimal most text =
    if is_decimal text && nat_le (digits_value 10 text) most then Some (digits_value 10 text) else None

-- an IPv6 address has a `:`
abbrev pub is_ipv6 : List ℕ → Bool
is_ipv6 text = list_any (λ b. b == 58) text
