use Rattle.std.proofs.Common.{codes, map, refl}
use Rattle.page_html.specs.Items.{Words, Own}
use Rattle.page_html.specs.Parts.{item_of}
use Rattle.page_lists.specs.Mentions.{mention}
use Rattle.page_lists.specs.Uses.{mention_value}
use Rattle.page_lists.proofs.Gathering.{gathers_values, one_more}
use Rattle.page_lists.proofs.mentions.push_later.Goals as goal

pub loop-mention-preserved : goal.loop-mention-preserved
loop-mention-preserved c =
    let comma = Own (Words (codes ", ")) in
    gathers_values mention_value c.args.mentions.now c.loop-mention.mention-index _ comma mention (map item_of c.args.parts.now.items) (map item_of c.loop-mention.parts.items)
    (map item_of c.push.new.self.items) (map item_of c.push_mention.new.parts.items) c.loop-mention-test.true c.loop-mention.invariant
    (one_more item_of c.loop-mention.parts.items c.push.new.self.items _ comma c.in_ok-push.ensures.items refl)
    c.in_ok-push_mention.ensures
