use Rattle.std.proofs.Common.{◌++◌, ◌∙◌, ap, length}
use Rattle.std.specs.Str.Lines.{lines}
use Rattle.std.specs.String.{string_bytes}
use Rattle.std.proofs.lemmas.Result.{on_ok_weaker}
use Rattle.page_html.proofs.Gaining.{three_pieces}
use Rattle.page_html.specs.Blocks.{element_html, tag_html}
use Rattle.page_html.specs.declared.blocks.Element.TheVariants.{Fold}
use Rattle.page_html.specs.declared.blocks.Tag.TheVariants.{FoldEnd}
use Rattle.page_filesystem.specs.Texts.{line_number, text_table}
use Rattle.page_filesystem.proofs.texts.push_folded_text.Goals as goal

pub returns : goal.returns
returns c =
    let page = string_bytes c.args.page.now in
    on_ok_weaker c.push_tag.result
    (three_pieces page (string_bytes c.push_element.new.page) (string_bytes c.push_text_table.new.page) (string_bytes c.push_tag.new.page)
    (element_html Fold (line_number (length (lines c.args.text.now)))) (text_table c.args.fs.0 c.args.name.now c.args.notes.now c.args.text.now)
    (tag_html FoldEnd) (c.in_ok-push_element.ensures ∙ ap (λ n. page ++ element_html Fold (line_number n)) c.line_count.ensures)
    c.in_ok-push_text_table.ensures)
    c.push_tag.ensures
