-- Addresses in the longest ranges that have them. (this project's own)
use Rattle.std.specs.Prelude.{◌≡◌, ℕ, ◌+◌, ◌-◌, ◌==◌, ◌<◌, ◌≤◌, List, [], ◌∷◌, if◌then◌else◌}
use Rattle.std.specs.List.{flat_map, range_with_len}
use Rattle.std.specs.List.Sorted.{IsStrictlyIncreasing}
use Rattle.page_html.specs.Ranges.{Ends}

-- Ranges of ascending addresses, of which the first range, so far, is this one. An address that follows its last one belongs to it.
abbrev pub ranges_from : ℕ → ℕ → List ℕ → List Ends
ranges_from first last [] = record { first = first; last = last } ∷ []
ranges_from first last (address ∷ others) =
    if last + 1 == address then ranges_from first address others
    else record { first = first; last = last } ∷ ranges_from address address others

-- ascending addresses in ranges
abbrev pub ranges_of : List ℕ → List Ends
ranges_of [] = []
ranges_of (address ∷ others) = ranges_from address address others

-- the addresses of a range, in order
abbrev pub addresses_in : Ends → List ℕ
addresses_in range = range_with_len range.first (range.last + 1 - range.first)

-- ranges that each have an address, ascend, and leave one out between two of them
abbrev pub AreApart : List Ends → Type 0
AreApart [] = Unit {0}
AreApart (range ∷ []) = range.first ≤ range.last
AreApart (range ∷ next ∷ others) = (range.first ≤ range.last) × (range.last + 1 < next.first) × AreApart (next ∷ others)

-- These ranges have just these addresses, in their order, and no two of the ranges could be one.
pub record AreLongestRanges (addresses : List ℕ) (ranges : List Ends) : Type 0 where
  pub have : flat_map addresses_in ranges ≡ addresses
  pub apart : AreApart ranges

-- Addresses that ascend, each once, stand in the longest ranges that have them.
abbrev pub RangesAreLongest : Type 0
RangesAreLongest = (addresses : List ℕ) → IsStrictlyIncreasing addresses → AreLongestRanges addresses (ranges_of addresses)
