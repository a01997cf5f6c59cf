use Rattle.std.specs.String.{string_bytes}
use Rattle.page_html.proofs.Gathered.{writes_values}
use Rattle.page_html.specs.Titles.{label_html, title_of}
use Rattle.page_html.proofs.titles.push_labels.Goals as goal

pub loop-part-preserved : goal.loop-part-preserved
loop-part-preserved c =
    writes_values title_of c.args.title.now c.loop-part.part-index _ label_html (string_bytes c.args.page.now) (string_bytes c.loop-part.page)
    (string_bytes c.push_label_part.new.page) c.loop-part-test.true c.loop-part.invariant c.in_ok-push_label_part.ensures
