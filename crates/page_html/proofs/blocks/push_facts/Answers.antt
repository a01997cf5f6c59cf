use Rattle.std.proofs.Common.{codes, map}
use Rattle.std.specs.String.{string_bytes}
use Rattle.std.proofs.lemmas.Result.{on_ok_weaker}
use Rattle.page_html.proofs.Gaining.{pushed_last, three_pieces}
use Rattle.page_html.specs.Blocks.{facts_start}
use Rattle.page_html.specs.Parts.{items_of}
use Rattle.page_html.specs.Tables.{cells_html, frame_of}
use Rattle.page_html.proofs.blocks.push_facts.Goals as goal

pub returns : goal.returns
returns c =
    let frame = frame_of c.args.frame.now in
    on_ok_weaker c.push_str.result
    (three_pieces (string_bytes c.args.page.now) (string_bytes c.push_within.new.page) (string_bytes c.push_cells.new.page) (string_bytes c.push_str.new.self)
    (facts_start frame.class) (cells_html frame.columns (map (λ fact. items_of fact.now) c.args.facts.now)) (codes "</dl>\n")
    c.in_ok-push_within.ensures c.in_ok-push_cells.ensures)
    (pushed_last c.push_str.result (string_bytes c.push_cells.new.page) (string_bytes c.push_str.new.self) (codes "</dl>\n") c.push_str.ensures.bytes)
