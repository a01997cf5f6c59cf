-- The ones so far were added.
use Rattle.std.proofs.Common.{◌≡◌, ◌++◌, map, take}
use Rattle.std.specs.List.{flat_map}
use Rattle.page_html.specs.Parts.{item_of}
use Rattle.page_lists.specs.Mentions.{later}
use Rattle.page_lists.specs.Uses.{mention_value}
use Rattle.page_lists.proofs.mentions.push_later.Given as goal

abbrev pub invariant-loop-mention : goal.invariant-loop-mention
invariant-loop-mention l = map item_of l.parts.items ≡ map item_of l.initial.parts.items ++ flat_map later (map mention_value (take l.mention-index l.mentions))
