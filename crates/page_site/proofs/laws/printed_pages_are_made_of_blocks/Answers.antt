use Rattle.page_site.proofs.MadePage as lemmas
use Rattle.page_site.proofs.laws.printed_pages_are_made_of_blocks.Goals as goal

pub returns : goal.returns
returns c = lemmas.printed_pages_are_made_of_blocks
