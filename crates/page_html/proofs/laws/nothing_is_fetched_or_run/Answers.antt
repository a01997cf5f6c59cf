use Rattle.std.proofs.Common.{refl}
use Rattle.page_html.proofs.laws.nothing_is_fetched_or_run.Goals as goal

pub returns : goal.returns
returns c = record { stands = λ database. refl; ends = refl; allows = refl }
