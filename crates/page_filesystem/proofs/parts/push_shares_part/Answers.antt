use Rattle.std.proofs.Common.{codes}
use Rattle.std.specs.String.{string_bytes}
use Rattle.std.proofs.lemmas.Result.{on_ok_weaker}
use Rattle.page_html.proofs.Gaining.{three_pieces}
use Rattle.page_filesystem.specs.Sections.{heading}
use Rattle.page_filesystem.specs.Shares.{shares_block}
use Rattle.page_filesystem.proofs.parts.push_shares_part.Goals as goal

pub returns : goal.returns
returns c =
    let part = c.args.part.now in
    on_ok_weaker c.push_shares_block.result
    (three_pieces (string_bytes c.args.page.now) (string_bytes c.push_heading.new.page) (string_bytes c.push_str.new.self)
    (string_bytes c.push_shares_block.new.page) (heading (codes "Where its clients are")) part.maps.now
    (shares_block part.name.now part.shares.now part.networks_left_out) c.in_ok-push_heading.ensures c.in_ok-push_str.ensures.bytes)
    c.push_shares_block.ensures
