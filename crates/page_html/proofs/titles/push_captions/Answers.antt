use Rattle.std.specs.String.{string_bytes}
use Rattle.page_html.proofs.Gathered.{writes_values}
use Rattle.page_html.specs.Titles.{caption_html, title_of}
use Rattle.page_html.proofs.titles.push_captions.Goals as goal

pub loop-part-preserved : goal.loop-part-preserved
loop-part-preserved c =
    writes_values title_of c.args.title.now c.loop-part.part-index _ caption_html (string_bytes c.args.page.now) (string_bytes c.loop-part.page)
    (string_bytes c.push_caption_part.new.page) c.loop-part-test.true c.loop-part.invariant c.in_ok-push_caption_part.ensures
