-- The object is what is known of it.
use Rattle.std.proofs.Common.{◌≡◌, ◌∙◌, ℕ, IfOk, List, subst}
use Rattle.std.specs.String.{string_bytes}
use Rattle.cli_verdict.specs.ObjectLine.{object_line}
use Rattle.cli_questions.proofs.objects.line_of.Goals as goal

pub returns-in-Ok : goal.returns-in-Ok
returns-in-Ok c = λ bytes known.
    let is : string_bytes c.in-Ok.object ≡ bytes = subst (λ given. IfOk given (λ text. string_bytes text ≡ bytes)) c.in-Ok.is known in
    subst (λ (text : List ℕ). IfOk c.object_line.result (λ line. string_bytes line ≡ object_line text)) (c.as_str.ensures.value ∙ is) c.object_line.ensures
