use Rattle.std.specs.String.{string_bytes}
use Rattle.std.proofs.lemmas.Result.{on_ok_weaker}
use Rattle.page_filesystem.specs.Parts.{clients_part, groups_part, head_part, text_part}
use Rattle.page_html.proofs.Gaining.{four_pieces}
use Rattle.page_filesystem.proofs.parts.push_file_system.Goals as goal

pub returns : goal.returns
returns c =
    on_ok_weaker c.push_groups_part.result
    (four_pieces (string_bytes c.args.page.now) (string_bytes c.push_head_part.new.page) (string_bytes c.push_text_part.new.page)
    (string_bytes c.push_clients_part.new.page) (string_bytes c.push_groups_part.new.page) (head_part c.args.part.now) (text_part c.args.part.now)
    (clients_part c.args.part.now) (groups_part c.args.part.now) c.in_ok-push_head_part.ensures c.in_ok-push_text_part.ensures
    c.in_ok-push_clients_part.ensures)
    c.push_groups_part.ensures
