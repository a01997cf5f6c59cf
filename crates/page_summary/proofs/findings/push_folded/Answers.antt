use Rattle.std.proofs.Common.{codes, length}
use Rattle.std.specs.String.{string_bytes}
use Rattle.std.proofs.lemmas.Result.{on_ok_weaker}
use Rattle.page_html.specs.Blocks.{tag_html}
use Rattle.page_html.specs.declared.blocks.Tag.TheVariants.{FoldEnd}
use Rattle.page_html.proofs.Gaining.{three_pieces}
use Rattle.page_summary.specs.Findings.{fold_start, more_frame, table}
use Rattle.page_summary.proofs.findings.push_folded.Goals as goal

pub returns : goal.returns
returns c =
    let rows = c.args.rows.now in
    on_ok_weaker c.push_tag.result
    (three_pieces (string_bytes c.args.page.now) (string_bytes c.push_element.new.page) (string_bytes c.push_table.new.page) (string_bytes c.push_tag.new.page)
    (fold_start (length rows)) (table more_frame (codes "More lines that stand out") rows) (tag_html FoldEnd)
    c.in_ok-push_element.ensures c.in_ok-push_table.ensures)
    c.push_tag.ensures
