use Rattle.page_findings.proofs.Sets.{set_is}
use Rattle.page_findings.proofs.naming.sorted.Goals as goal

pub returns : goal.returns
returns c = set_is _ _ _ c.sort_unstable.ensures.permutation c.sort_unstable.ensures.sorted c.dedup.ensures.filtered
