-- Ranges of addresses on the page. (this project's own)
use Rattle.std.specs.Prelude.{ℕ, ◌==◌, ◌&&◌, Bool, false, List, [], ◌∷◌, ◌++◌, Option, Some, None, codes, drop, length, nat_le, take, if◌then◌else◌}
use Rattle.std.specs.Fmt.{decimal}
use Rattle.std.specs.List.{find, flat_map, range_with_len}
use Rattle.desk_text.specs.Address as addresses
use Rattle.desk_text.specs.Address.{addr_text}
use Rattle.desk_text.specs.Network.{block_of, last_of}
use Rattle.page_html.specs.declared.ranges.Span.{Span}
use Rattle.page_html.specs.Amounts.{plural}
use Rattle.page_html.specs.Numbers.{number}

-- addresses from the first to the last
pub record Ends : Type 0 where
  pub first : ℕ
  pub last : ℕ

abbrev pub ends_of : Span → Ends
ends_of span = record { first = addresses.number_of span.first; last = addresses.number_of span.last }

-- the range between two numbers
abbrev pub between : ℕ → ℕ → Span
between first last = record { first = record { number = first }; last = record { number = last } }

-- the network of this prefix that the first address is in begins and ends with the range
abbrev pub is_network : Ends → ℕ → Bool
is_network ends prefix = (block_of ends.first prefix).first == ends.first && last_of (block_of ends.first prefix) == ends.last

-- the prefix of the network that a range is, if it is one
unfoldable pub prefix_of : Ends → Option ℕ
prefix_of ends = find (is_network ends) (range_with_len 0 33)

-- A network, as `10.0.0.0/8`, by its first address and its prefix.
abbrev pub network_text : ℕ → ℕ → List ℕ
network_text first prefix = addr_text first ++ codes "/" ++ decimal prefix

-- a network, of which one address alone is written without a prefix
abbrev pub network_or_address : ℕ → ℕ → List ℕ
network_or_address first prefix = if prefix == 32 then addr_text first else network_text first prefix

-- an address, a network, or any other range by its ends, between which a line may be broken
abbrev pub text_by_prefix : Ends → Option ℕ → List ℕ
text_by_prefix ends None = addr_text ends.first ++ codes "-<wbr>" ++ addr_text ends.last
text_by_prefix ends (Some prefix) = network_or_address ends.first prefix

abbrev pub range_text : Ends → List ℕ
range_text ends = text_by_prefix ends (prefix_of ends)

-- ranges in a list
abbrev pub item : Span → List ℕ
item span = codes "<li>" ++ range_text (ends_of span) ++ codes "</li>"

unfoldable pub items : List Span → List ℕ
items ranges = flat_map item ranges

abbrev pub range_list : List Span → List ℕ
range_list ranges = codes "<ul class=\"r\">" ++ items ranges ++ codes "</ul>"

-- how many ranges are left out
abbrev pub left_out : ℕ → List ℕ
left_out count = codes "<p class=\"cut\">" ++ plural count (codes "more range is") (codes "more ranges are") ++ codes " not listed here.</p>"

-- of the ranges that are folded, the first 248 are listed
abbrev pub listed_of : List Span → List ℕ
listed_of ranges = if nat_le (length ranges) 248 then range_list ranges else range_list (take 248 ranges) ++ left_out (length (drop 248 ranges))

abbrev pub folded_ranges : List Span → List ℕ
folded_ranges ranges = codes "<details><summary>" ++ number (length ranges) ++ codes " more</summary>\n" ++ listed_of ranges ++ codes "</details>\n"

-- the first 8 ranges in the open, and the others folded
abbrev pub open_and_folded : List Span → List ℕ
open_and_folded ranges = if nat_le (length ranges) 8 then range_list ranges else range_list (take 8 ranges) ++ folded_ranges (drop 8 ranges)

-- the only range is that of all addresses
abbrev pub are_all : List Span → Bool
are_all [] = false
are_all (span ∷ []) = addresses.number_of span.first == 0 && addresses.number_of span.last == 4294967295
are_all (span ∷ other ∷ others) = false

-- ranges of addresses
abbrev pub ranges_text : List Span → List ℕ
ranges_text ranges = if are_all ranges then codes "<b>every address</b>" else open_and_folded ranges
