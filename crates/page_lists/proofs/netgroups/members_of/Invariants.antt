-- The members so far are named.
use Rattle.std.proofs.Common.{◌≡◌, map, take}
use Rattle.page_lists.specs.Netgroups.{member_value}
use Rattle.page_lists.specs.Uses.{mention_value}
use Rattle.page_lists.proofs.netgroups.members_of.Given as goal

abbrev pub invariant-loop-member : goal.invariant-loop-member
invariant-loop-member l = map mention_value l.mentions.items ≡ map member_value (take l.member-index l.members)
