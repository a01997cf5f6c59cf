-- The cells of what is told of a name. (this project's own)
use Rattle.std.specs.Prelude.{ℕ, ◌==◌, List, codes, length, map, if◌then◌else◌}
use Rattle.page_html.specs.Items.{Item, Ranges, Strong, Zero, Own}
use Rattle.page_html.specs.Ranges.{Ends, between}
use Rattle.page_html.specs.declared.ranges.Span.{Span}
use Rattle.page_lists.specs.Mentions.{some_or}
use Rattle.page_lists.specs.Uses.{MentionValue}

-- the range between two ends
abbrev pub span_of : Ends → Span
span_of ends = between ends.first ends.last

-- the addresses that a name stands for
abbrev pub stands_for : List Ends → Item (List ℕ)
stands_for ranges = if length ranges == 0 then Own (Strong (codes "nobody")) else Own (Ranges (map span_of ranges))

-- the lines that write a name: 6 at the most, and how many more
abbrev pub written_by : List MentionValue → List (Item (List ℕ))
written_by uses = some_or 6 (Own (Zero (codes "no line"))) uses
