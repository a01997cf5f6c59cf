-- Sets of addresses that spans hold. (this project's own)
use Rattle.std.specs.Prelude.{ℕ, ◌&&◌, nat_le, nat_lt, Bool, List, count_by}
use Rattle.desk_text.specs.Address.{number_of}
use Rattle.desk_expect.specs.declared.span.Span.{Span}

-- the addresses from the first to the last
pub record Between : Type 0 where
  pub first : ℕ
  pub last : ℕ

-- a span by value
abbrev pub span_value : Span → Between
span_value span = record { first = number_of span.first; last = number_of span.last }

-- a span holds an address
abbrev pub holds : ℕ → Span → Bool
holds address span = nat_le (number_of span.first) address && nat_le address (number_of span.last)

-- where spans begin, and where they end
pub record SpanEnds : Type 0 where
  pub firsts : List ℕ
  pub lasts : List ℕ

-- one of the spans holds an address: more of them begin up to it than end before it
abbrev pub is_held : SpanEnds → ℕ → Bool
is_held ends address = nat_lt (count_by (λ last. nat_lt last address) ends.lasts) (count_by (λ first. nat_le first address) ends.firsts)
