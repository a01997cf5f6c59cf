-- The lines so far are named.
use Rattle.std.proofs.Common.{◌≡◌, map, take}
use Rattle.page_lists.specs.Uses.{line_of, mention_value}
use Rattle.page_lists.specs.NameIndex.{written_value}
use Rattle.page_lists.proofs.uses.mentions_of.Given as goal

abbrev pub invariant-loop-line : goal.invariant-loop-line
invariant-loop-line l = map mention_value l.mentions.items ≡ map (line_of l.filesystems) (map written_value (take l.line-index l.lines))
