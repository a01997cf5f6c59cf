use Rattle.page_html.proofs.Apart as apart
use Rattle.page_html.proofs.laws.pages_are_made_of_pieces.Goals as goal

pub returns : goal.returns
returns c = apart.pages_are_made_of_pieces c.no_text_is_markup.ensures c.texts_are_told_apart.ensures
