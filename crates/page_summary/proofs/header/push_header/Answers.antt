use Rattle.std.specs.String.{string_bytes}
use Rattle.std.proofs.lemmas.Result.{on_ok_weaker}
use Rattle.page_html.proofs.Gaining.{five_pieces}
use Rattle.page_html.specs.Blocks.{tag_html}
use Rattle.page_html.specs.declared.blocks.Tag.TheVariants.{HeaderStart}
use Rattle.page_summary.specs.Header.{links, scope, state, title}
use Rattle.page_summary.proofs.header.push_header.Goals as goal

pub returns : goal.returns
unfolding links
returns c =
    on_ok_weaker c.push_fixed.result
    (five_pieces (string_bytes c.args.page.now) (string_bytes c.push_tag.new.page) (string_bytes c.push_element.new.page)
    (string_bytes c.push_scope.new.page) (string_bytes c.push_element-2.new.page) (string_bytes c.push_fixed.new.page)
    (tag_html HeaderStart) (title c.args.header.now.database.now) scope (state c.args.header.now) links
    c.in_ok-push_tag.ensures c.in_ok-push_element.ensures c.in_ok-push_scope.ensures c.in_ok-push_element-2.ensures)
    c.push_fixed.ensures
