-- The lines of a site that stand out. (this project's own)
use Rattle.std.specs.Prelude.{ℕ, ◌==◌, ◌-◌, ◌^◌, ◌∷◌, [], Bool, List, filter, length, not}
use Rattle.std.specs.Cmp.Lexicographic.{slice_cmp}
use Rattle.std.specs.List.Sorted.{IsPermutation, IsSortedByKey}
use Rattle.std.specs.Ordering.{nat_cmp}
use Rattle.page_data.specs.Reasons.{level_of_all}
use Rattle.page_data.specs.declared.reasons.Level.{Level}
use Rattle.page_data.specs.declared.reasons.Level.TheVariants.{LookFirst, Check}
use Rattle.page_findings.specs.Lines.{LineValue}

-- a line stands out: for some reason
abbrev pub stands_out : LineValue → Bool
stands_out line = not (length line.reasons == 0)

-- the place of a level
abbrev pub level_rank : Level → ℕ
level_rank LookFirst = 0
level_rank Check = 1

-- the level of a line that stands out: that of its highest reason
abbrev pub level_of_line : LineValue → Level
level_of_line line = level_of_all line.reasons

-- The order of the lines that stand out: those to be looked at first come first, of one level those that grant something to most
-- addresses, then those of the first file systems, and of one file system the first lines.
abbrev pub order_of : LineValue → List ℕ
order_of line = level_rank (level_of_line line) ∷ (2 ^ 64 - 1 - line.count) ∷ line.fs ∷ line.row.entry.line ∷ []

-- Just those of the lines that stand out, in this order: none comes before the one in front of it.
pub record AreFindings (lines found : List LineValue) : Type 0 where
  pub just : IsPermutation (filter stands_out lines) found
  pub order : IsSortedByKey order_of (slice_cmp nat_cmp) found
