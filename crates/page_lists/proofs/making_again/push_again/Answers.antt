use Rattle.std.specs.String.{string_bytes}
use Rattle.page_html.proofs.Gaining.{three_pieces}
use Rattle.page_lists.specs.MakingAgain.{commands, heading, same}
use Rattle.page_lists.proofs.making_again.push_again.Goals as goal

pub returns : goal.returns
returns c =
    three_pieces (string_bytes c.args.page.now) (string_bytes c.push_heading.new.page) (string_bytes c.push_commands.new.page) (string_bytes c.push_same.new.page)
    heading (commands c.args.word.now) same c.in_ok-push_heading.ensures c.in_ok-push_commands.ensures c.in_ok-push_same.ensures
