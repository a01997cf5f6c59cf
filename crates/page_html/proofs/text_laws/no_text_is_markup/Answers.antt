use Rattle.page_html.proofs.Markup as markup
use Rattle.page_html.proofs.text_laws.no_text_is_markup.Goals as goal

pub returns : goal.returns
returns c = markup.no_text_is_markup
