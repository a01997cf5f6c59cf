-- What the private contracts of the names of a line cite.
use Rattle.std.specs.Prelude.{◌≡◌, ℕ, ◌||◌, Bool, List}
use Rattle.std.specs.List.{list_any}
use Rattle.desk_expect.specs.Spans.{holds}
use Rattle.desk_expect.specs.declared.span.Span.{Span}

-- spans were added that hold just the addresses that pass a test
abbrev pub AddsSpans : (ℕ → Bool) → List Span → List Span → Type 0
AddsSpans passes old new = (address : ℕ) → list_any (holds address) new ≡ (list_any (holds address) old || passes address)
