use Rattle.std.proofs.Common.{◌++◌, ◌∙◌, ap}
use Rattle.std.specs.String.{string_bytes}
use Rattle.std.proofs.lemmas.Result.{on_ok_weaker}
use Rattle.page_html.proofs.Gaining.{pushed_last, three_pieces}
use Rattle.page_html.specs.Tables.{caption_end, caption_start}
use Rattle.page_html.specs.Titles.{captions_html, titles_of}
use Rattle.page_html.proofs.tables.push_caption.Goals as goal

pub returns : goal.returns
returns c =
    let page = string_bytes c.args.page.now in
    on_ok_weaker c.push_str-2.result
    (three_pieces page (string_bytes c.push_str.new.self) (string_bytes c.push_captions.new.page) (string_bytes c.push_str-2.new.self)
    (caption_start c.args.is_titled) (captions_html (titles_of c.args.title.now)) caption_end
    (c.in_ok-push_str.ensures.bytes ∙ ap (λ t. page ++ t) c.caption_start.ensures) c.in_ok-push_captions.ensures)
    (pushed_last c.push_str-2.result (string_bytes c.push_captions.new.page) (string_bytes c.push_str-2.new.self) caption_end c.push_str-2.ensures.bytes)
