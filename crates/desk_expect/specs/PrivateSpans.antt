-- What the private contracts of sets of addresses cite.
use Rattle.std.specs.Prelude.{ℕ, ◌+◌, ◌^◌, ◌&&◌, ◌++◌, ◌∷◌, nat_lt, List, [], if◌then◌else◌}
use Rattle.std.specs.List.{flat_map}
use Rattle.desk_expect.specs.Spans.{SpanEnds}

-- the address with this number, if there is one, and one before it
abbrev pub start_if : ℕ → List ℕ
start_if number = if nat_lt 0 number && nat_lt number (2 ^ 32) then number ∷ [] else []

-- where the spans begin, and right after where they end
abbrev pub set_starts : SpanEnds → List ℕ
set_starts ends = flat_map (λ first. start_if (first + 0)) ends.firsts ++ flat_map (λ last. start_if (last + 1)) ends.lasts
