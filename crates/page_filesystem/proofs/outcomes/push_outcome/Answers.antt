use Rattle.std.proofs.Common.{◌++◌, ◌∙◌, ap, sym}
use Rattle.std.specs.String.{string_bytes}
use Rattle.std.proofs.lemmas.Result.{on_ok_weaker}
use Rattle.page_filesystem.specs.Outcomes.{outcome_text}
use Rattle.page_filesystem.proofs.outcomes.push_outcome.Goals as goal

pub returns-in-Refused : goal.returns-in-Refused
returns-in-Refused c =
    on_ok_weaker c.push_element.result
    (λ added. added ∙ ap (λ outcome. string_bytes c.args.page.now ++ outcome_text outcome) (sym c.in-Refused.is))
    c.push_element.ensures
