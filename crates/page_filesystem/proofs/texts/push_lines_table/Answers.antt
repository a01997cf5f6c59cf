use Rattle.std.specs.String.{string_bytes}
use Rattle.std.specs.Str.Lines.{lines}
use Rattle.std.proofs.lemmas.Result.{on_ok_weaker}
use Rattle.page_html.proofs.Gaining.{three_pieces}
use Rattle.page_html.specs.Blocks.{tag_html}
use Rattle.page_html.specs.declared.blocks.Tag.TheVariants.{TableEnd}
use Rattle.page_filesystem.specs.Texts.{text_rows, text_start}
use Rattle.page_filesystem.proofs.texts.push_lines_table.Goals as goal

pub returns : goal.returns
returns c =
    on_ok_weaker c.push_tag.result
    (three_pieces (string_bytes c.args.page.now) (string_bytes c.push_text_start.new.page) (string_bytes c.push_text_rows.new.page)
    (string_bytes c.push_tag.new.page) (text_start c.args.name.now) (text_rows c.args.fs.0 c.args.notes.now 0 (lines c.args.text.now))
    (tag_html TableEnd) c.in_ok-push_text_start.ensures c.in_ok-push_text_rows.ensures)
    c.push_tag.ensures
