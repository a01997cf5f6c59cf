use Rattle.page_html.specs.Parts.{item_of}
use Rattle.page_lists.specs.Mentions.{kind, named}
use Rattle.page_lists.specs.Uses.{mention_value}
use Rattle.page_lists.proofs.Gathering.{two_more}
use Rattle.page_lists.proofs.mentions.push_mention.Goals as goal

pub returns : goal.returns
returns c =
    two_more item_of c.args.parts.now.items c.push.new.self.items c.push-2.new.self.items c.kind_of.result c.named.result
    (kind (mention_value c.args.mention)) (named (mention_value c.args.mention)) c.in_ok-push.ensures.items c.in_ok-push-2.ensures.items c.kind_of.ensures c.named.ensures
