-- The exports are those of the policy of the site.
use Rattle.std.proofs.Common.{◌≡◌, ◌∙◌, ℕ, IfOk, List, subst}
use Rattle.std.specs.String.{string_bytes}
use Rattle.desk_policy.specs.Policy.{Content}
use Rattle.desk_service.specs.Sites.{site_of}
use Rattle.cli_questions.specs.Questions.{exports_by, printer_of}
use Rattle.cli_questions.proofs.printing.print_exports.Goals as goal

pub returns : goal.returns
returns c =
    let content : Content = (site_of (λ content. content) c.args.site.now).content in
    let bytes : List ℕ = exports_by c.args.json (printer_of c.args.printer) content in
    c.print_text.ensures bytes
    (subst (λ (policy : Content). IfOk c.exports_by.result (λ text. string_bytes text ≡ exports_by c.args.json (printer_of c.args.printer) policy)) (c.policy.ensures ∙ c.view.ensures) c.exports_by.ensures)
