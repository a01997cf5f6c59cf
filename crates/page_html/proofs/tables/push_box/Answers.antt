use Rattle.std.specs.String.{string_bytes}
use Rattle.std.proofs.lemmas.Result.{on_ok_weaker}
use Rattle.page_html.proofs.Gaining.{pushed_last, three_pieces}
use Rattle.page_html.specs.Tables.{box_end, box_start}
use Rattle.page_html.specs.Titles.{labels_html, titles_of}
use Rattle.page_html.proofs.tables.push_box.Goals as goal

pub returns : goal.returns
returns c =
    on_ok_weaker c.push_str-2.result
    (three_pieces (string_bytes c.args.page.now) (string_bytes c.push_str.new.self) (string_bytes c.push_labels.new.page) (string_bytes c.push_str-2.new.self)
    box_start (labels_html (titles_of c.args.title.now)) box_end c.in_ok-push_str.ensures.bytes c.in_ok-push_labels.ensures)
    (pushed_last c.push_str-2.result (string_bytes c.push_labels.new.page) (string_bytes c.push_str-2.new.self) box_end c.push_str-2.ensures.bytes)
