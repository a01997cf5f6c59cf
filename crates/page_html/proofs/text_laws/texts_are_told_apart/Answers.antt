use Rattle.page_html.proofs.Telling as telling
use Rattle.page_html.proofs.text_laws.texts_are_told_apart.Goals as goal

pub returns : goal.returns
returns c = telling.texts_are_told_apart
