use Rattle.std.proofs.Common.{map}
use Rattle.std.specs.String.{string_bytes}
use Rattle.std.proofs.lemmas.Result.{on_ok_weaker}
use Rattle.page_html.proofs.Gaining.{three_pieces}
use Rattle.page_html.specs.Blocks.{tag_html}
use Rattle.page_html.specs.declared.blocks.Tag.TheVariants.{FindingsStart, ListEnd}
use Rattle.page_summary.specs.Proposals.{entries, proposal_value}
use Rattle.page_summary.proofs.proposals.push_list.Goals as goal

pub returns : goal.returns
returns c =
    on_ok_weaker c.push_tag-2.result
    (three_pieces (string_bytes c.args.page.now) (string_bytes c.push_tag.new.page) (string_bytes c.push_entries.new.page) (string_bytes c.push_tag-2.new.page)
    (tag_html FindingsStart) (entries c.args.table.now (map proposal_value c.args.rows.now)) (tag_html ListEnd)
    c.in_ok-push_tag.ensures c.in_ok-push_entries.ensures)
    c.push_tag-2.ensures
