use Rattle.page_findings.proofs.Gathering.{all_more}
use Rattle.page_html.specs.Parts.{item_of}
use Rattle.page_maps.proofs.network_cells.push_all.Goals as goal

pub returns : goal.returns
returns c = all_more item_of c.args.parts.now.items c.extend_from_slice.new.self.items c.args.more.now c.in_ok-extend_from_slice.ensures.items
