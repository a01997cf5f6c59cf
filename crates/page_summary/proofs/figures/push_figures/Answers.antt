use Rattle.std.specs.String.{string_bytes}
use Rattle.std.proofs.lemmas.Result.{on_ok_weaker}
use Rattle.page_html.specs.Blocks.{facts_html, tag_html}
use Rattle.page_html.specs.declared.blocks.Tag.TheVariants.{SummaryStart}
use Rattle.page_html.proofs.Gaining.{two_pieces}
use Rattle.page_summary.specs.Figures.{facts, figures_frame}
use Rattle.page_summary.proofs.figures.push_figures.Goals as goal

pub returns : goal.returns
returns c =
    on_ok_weaker c.push_facts.result
    (two_pieces (string_bytes c.args.page.now) (string_bytes c.push_tag.new.page) (string_bytes c.push_facts.new.page)
    (tag_html SummaryStart) (facts_html figures_frame (facts c.args.figures.now)) c.in_ok-push_tag.ensures)
    c.push_facts.ensures
