use Rattle.std.proofs.Common.{codes}
use Rattle.std.specs.String.{string_bytes}
use Rattle.std.proofs.lemmas.Result.{on_ok_weaker}
use Rattle.page_html.proofs.Gaining.{two_pieces}
use Rattle.page_filesystem.specs.Sections.{heading}
use Rattle.page_filesystem.specs.Texts.{text_block}
use Rattle.page_filesystem.proofs.parts.push_text_part.Goals as goal

pub returns : goal.returns
returns c =
    let part = c.args.part.now in
    on_ok_weaker c.push_text_block.result
    (two_pieces (string_bytes c.args.page.now) (string_bytes c.push_heading.new.page) (string_bytes c.push_text_block.new.page)
    (heading (codes "Text in force")) (text_block part.fs.0 part.name.now part.notes.now part.text.now) c.in_ok-push_heading.ensures)
    c.push_text_block.ensures
