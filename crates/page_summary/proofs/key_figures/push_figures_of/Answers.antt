use Rattle.std.proofs.lemmas.Result.{on_ok_weaker}
use Rattle.page_summary.proofs.key_figures.push_figures_of.Goals as goal

pub returns : goal.returns
returns c =
    on_ok_weaker c.push_figures.result
    (λ ended. record { made = c.key_figures-figures.result; are = c.key_figures-figures.ensures _ c.in_ok-counted.ensures; added = ended })
    c.push_figures.ensures
