use Rattle.page_html.specs.Parts.{item_of}
use Rattle.page_findings.proofs.Gathering.{all_more}
use Rattle.page_summary.proofs.finding_cells.push_place.Goals as goal

pub returns : goal.returns
returns c = all_more item_of c.args.parts.now.items c.extend_from_slice.new.self.items _ c.in_ok-extend_from_slice.ensures.items
